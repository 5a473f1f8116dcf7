-- add_new_symbol: the name is stored with the next number, or the store is full.
-- The check finds none of these goals alone, nor with the laws named at the function.
use Rattle.convert.proofs.Symbols.{symbol_full, symbol_new}
use Rattle.convert.proofs.add_new_symbol.Goals as goal

pub returns-in_err-put_number : goal.returns-in_err-put_number
returns-in_err-put_number c = symbol_full c.requires.symbols c.requires.missing.0 c.put_number.ensures c.in_err-put_number.was c.from_residual.ensures.1

pub returns : goal.returns
returns c = symbol_new c.requires.symbols c.requires.missing.0 c.put_number.ensures c.in_ok-put_number.was c.add_number.ensures
