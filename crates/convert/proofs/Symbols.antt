-- ed2: a name that is stored, and one that is stored with the next number.
use mathlib.Core.Path.{◌≡◌, refl, sym, ap, ◌∙◌, subst}
use mathlib.Core.Bool.{Bool, true, false}
use mathlib.Core.Option as Math
use mathlib.Core.List.{[]}
use Prim.Native.Nat.{ℕ, suc, ◌+◌, ◌≤◌}
use native.Mathlib.Omega.{arith}
use lib.ListN.{length}
use Rattle.std.proofs.Common.{Bor}
use Rattle.std.specs.Option.{option_copied, unwrap_or}
use Rattle.std.specs.Prelude.{Some, None, Result, Ok, Err, Option, IsErrAnd}
use Rattle.faults.specs.declared.RunFault.{RunFault}
use Rattle.faults.specs.declared.RunFault.TheVariants.{FullStore}
use Rattle.faults.specs.Numbers.{run_number}
use Rattle.model.specs.Text.{Bytes}
use Rattle.model.specs.Store.{Store, put, within, decimal, find, memory_fault}
use Rattle.model.specs.Machine.{Building, failed, or_nothing, add, add_symbol, Outputs}
use Rattle.model.proofs.Sizes.{put_new}
use Rattle.store.specs.declared.Full.{Full}
use Rattle.store.specs.Seek.{found_text}
use Rattle.store.specs.Names.{GetsText, PutsText, put_fault}
use Rattle.state.specs.declared.State.{State}
use Rattle.state.specs.State.{shared_of}
use Rattle.call.specs.declared.Text.{Text}
use Rattle.call.specs.Call.{text_of}
use Rattle.call.specs.Line.{line_step, Appends}
use Rattle.convert.specs.Added.{Lengthens}
use Rattle.convert.specs.Converted.{Missing, AddsSymbol}
use Rattle.convert.proofs.Adding.{adds_after, adds_appended, adds_made, appends_lengthens}

-- the next number, and the store with it
abbrev numeral : State → Bytes
numeral s = decimal (suc s.symbols)

abbrev more : Bytes → State → Store
more name s = put name (numeral s) s.store

-- what the expansion does with a name that is not stored, where there is room for it or not
abbrev next : Bytes → Bytes → State → Outputs → Bool → Building
next name l s o q = elim q as (λ _. Building) [
  | true ↦ add l (numeral s) (record { symbols = suc s.symbols; store = more name s; output = (shared_of s o).output })
  | false ↦ failed 19 (shared_of s o)
]

pub puts_number : {es : Store} {name : Bytes} {r : Result Unit Full} {es' : Store} {digits : Bytes} (v : ℕ) → digits ≡ decimal v → PutsText es name digits r es' → PutsText es name (decimal v) r es'
puts_number {es} {name} {r} {es'} v d p = subst (λ (t : Bytes). PutsText es name t r es') d p

-- the text that is stored, or nothing
pub stored_or : {es : Store} {name : Bytes} (o : Option (Bor Bytes)) (d : Bor Bytes) → GetsText es name (option_copied o) → d.now ≡ []
    → (unwrap_or o d).now ≡ or_nothing (find name es)
unfolding or_nothing
stored_or (Some t) d g e = ap or_nothing g.is
stored_or None d g e = e ∙ ap or_nothing g.is

-- a fault, whatever the calls share
lengthens_full : {x : Text} {r : Result Unit RunFault} → IsErrAnd r (λ f. f ≡ FullStore) → Lengthens (λ w. failed 19 w) r x
unfolding line_step
lengthens_full {r = Ok n} q = absurd q
lengthens_full {r = Err f} q = record { is = λ w. ap (λ (n : ℕ). failed n w) (sym (ap run_number q)) }

-- whether there was room
room_for : (q : Bool) → memory_fault q ≡ 0 → q ≡ true
room_for true h = refl
room_for false h = absurd (omega arith)

module _ {name : Bytes} {x : Text} {s : State} (h : s.symbols ≤ length s.store) where
  pub symbol_there : {e : Option Bytes} {t : Bytes} {y : Text} {r : Result Unit RunFault} → GetsText s.store name e → e ≡ Some t → Appends x t r y → AddsSymbol name x s r y s
  unfolding add_symbol
  symbol_there g t p = record {
    adds = adds_appended h (λ o. ap (λ (z : Math.Option Bytes). add_symbol (text_of x) name z (shared_of s o)) (sym g.is ∙ ap found_text t)) p;
  }

  module _ (g : Missing s.store name) {es' : Store} {b : Result Unit Full} (p : PutsText s.store name (decimal (s.symbols + 1)) b es') where
    pub symbol_full : {f : Full} {r : Result Unit RunFault} → b ≡ Err f → IsErrAnd r (λ e. e ≡ FullStore) → AddsSymbol name x s r x (record s { store = es' })
    unfolding add_symbol
    symbol_full {r = r} c w =
        let z : s.symbols + 1 ≡ suc s.symbols = omega arith in
        let text : decimal (s.symbols + 1) ≡ numeral s = ap decimal z in
        let f = p.full _ c in
        let full : within (more name s) ≡ false = ap (λ (b : Bytes). within (put name b s.store)) (sym text) ∙ f.1 in
        subst (λ (es : Store). AddsSymbol name x s r x (record s { store = es })) (sym f.0)
        (record {
          adds = adds_made h
              (λ o. ap (λ (z : Math.Option Bytes). add_symbol (text_of x) name z (shared_of s o)) g.is ∙ ap (λ (q : Bool). next name (text_of x) s o q) full) (lengthens_full w);
        })

    pub symbol_new : {y : Text} {r : Result Unit RunFault} → b ≡ Ok tt → Appends x (decimal (s.symbols + 1)) r y → AddsSymbol name x s r y (record s { symbols = s.symbols + 1; store = es' })
    unfolding add_symbol
    symbol_new {y} {r} c u =
        let z : s.symbols + 1 ≡ suc s.symbols = omega arith in
        let text : decimal (s.symbols + 1) ≡ numeral s = ap decimal z in
        let stored : more name s ≡ es' = ap (λ (b : Bytes). put name b s.store) (sym text) ∙ sym (p.done c) in
        let room : within (more name s) ≡ true = ap (λ (b : Bytes). within (put name b s.store)) (sym text) ∙ room_for _ (sym p.number ∙ ap put_fault c) in
        let number : suc s.symbols ≡ s.symbols + 1 = sym z in
        let grown = put_new name (numeral s) s.store g.is in
        let long = ap (λ (es : Store). length es) stored in
        record {
          adds = adds_after
              (λ o. ap (λ (z : Math.Option Bytes). add_symbol (text_of x) name z (shared_of s o)) g.is ∙ ap (λ (q : Bool). next name (text_of x) s o q) room
              ∙ (λ i. add (text_of x) (decimal (number i)) (record { symbols = number i; store = stored i; output = (shared_of s o).output })))
              (record { symbols = omega arith; at = refl; line = refl; calls = refl; written = refl; second = refl; events = refl; fuel = refl })
              (appends_lengthens u);
        }
