-- print_fits adds a row for each line: each has room, and those of all lines make the whole.
-- The check finds none of these goals alone, nor with the laws named at the function.
use mathlib.Core.Path.{refl, ap, ◌∙◌}
use lib.Dec.{eqb}
use Prim.Native.Nat.{ℕ}
use Rattle.std.proofs.Common.{rules, of_calls, Bor, List}
use Rattle.std.proofs.lemmas.Fn.{always_returns_same}
use Rattle.model.specs.Results.{fit_of_line}
use Rattle.printed.proofs.Rows.{row_room, rowing_more, rowing_all, cuts_first, stripped}
use Rattle.printed.proofs.print_fits.Goals as goal

pub add_fitted-w-requires : goal.add_fitted-w-requires
add_fitted-w-requires c =
    let h = c.in-Some.ensures.steps in
    let m = (h.1.2 (λ (b : ℕ). eqb b 10) (always_returns_same _ _ _ (λ a r f k. search (rules, of_calls)))).1 in
    let s = stripped _ _ _ _ h.0 h.1.1 h.2 m c.strip_suffix.result c.in-Some.line refl c.strip_suffix.ensures.cases in
    let v = ap (λ (y : Bor (List ℕ)). y.now) c.unwrap_or.ensures ∙ s in
    row_room c.loop-line.invariant (cuts_first _ _ _ _ h.0 h.1.1 h.2 m) (c.fit.ensures.value ∙ ap (λ (y : List ℕ). fit_of_line 2048 51456 c.args.text.now y) v) c.requires

pub loop-line-preserved : goal.loop-line-preserved
loop-line-preserved c =
    let h = c.in-Some.ensures.steps in
    let m = (h.1.2 (λ (b : ℕ). eqb b 10) (always_returns_same _ _ _ (λ a r f k. search (rules, of_calls)))).1 in
    let s = stripped _ _ _ _ h.0 h.1.1 h.2 m c.strip_suffix.result c.in-Some.line refl c.strip_suffix.ensures.cases in
    let v = ap (λ (y : Bor (List ℕ)). y.now) c.unwrap_or.ensures ∙ s in
    rowing_more c.loop-line.invariant (cuts_first _ _ _ _ h.0 h.1.1 h.2 m) (c.fit.ensures.value ∙ ap (λ (y : List ℕ). fit_of_line 2048 51456 c.args.text.now y) v) c.add_fitted-w.ensures

pub returns : goal.returns
returns c = rowing_all c.loop-line.invariant c.in-None.ensures.steps.0
