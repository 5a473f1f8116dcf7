-- What a struct of templates in order stands for.
use Rattle.std.specs.Prelude.{List, ℕ}
use Rattle.model.specs.Text.{Bytes}
use Rattle.macros.specs.Table.{templates_in, order_in}
use Rattle.templates.specs.declared.Ordered.{Ordered}

-- the templates in the order of the text, and the number of the one at a place of the order of their keys
abbrev pub templates_of : Ordered → List Bytes
templates_of o = templates_in o.text.now o.table.now o.table.now.count

abbrev pub order_of : Ordered → ℕ → ℕ
order_of o = order_in o.table.now
