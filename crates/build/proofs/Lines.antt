-- The line as far as it is built: what is left of the code line comes to the same as the whole.
use mathlib.Core.Path.{◌≡◌, sym, ap, ◌∙◌, subst}
use mathlib.Core.Bool.{true}
use mathlib.Core.List.{List, []}
use Prim.Native.Nat.{ℕ}
use lib.ListN.{drop}
use lib.Dec.{eqb}
use Rattle.std.specs.Prelude.{Result, Ok, Err, IsErrAnd}
use Rattle.faults.specs.declared.RunFault.{RunFault}
use Rattle.model.specs.declared.Marks.{Marks}
use Rattle.model.specs.Text.{Bytes}
use Rattle.model.specs.Code as Code
use Rattle.model.specs.Code.{parse, effect, effect_of}
use Rattle.model.specs.Machine.{Frame, Building, built, failed, build, finish, finish_built, carry_out, Outputs}
use Rattle.state.specs.declared.State.{State}
use Rattle.state.specs.State.{shared_of}
use Rattle.code.specs.declared.Part.{Part}
use Rattle.code.specs.declared.Ending.{Ending}
use Rattle.code.specs.declared.Token.{Token}
use Rattle.code.specs.declared.Token.TheVariants.{Ends, Has}
use Rattle.code.specs.Tokens.{ReadsToken}
use Rattle.code.proofs.Lines.{Ahead, ahead_more, ahead_ends, says_ends, says_has}
use Rattle.call.specs.declared.Text.{Text}
use Rattle.call.specs.declared.Call.{Call}
use Rattle.call.specs.Call.{text_of, frame_of}
use Rattle.call.specs.Line.{line_step}
use Rattle.convert.specs.Added.{Keeps}
use Rattle.build.specs.Built.{AddsPart, built_step, Builds}

pub keeps_more : {s t u : State} → Keeps s t → Keeps t u → Keeps s u
keeps_more k h = record {
  symbols = h.symbols;
  at = h.at ∙ k.at;
  line = h.line ∙ k.line;
  calls = h.calls ∙ k.calls;
  written = h.written ∙ k.written;
  second = h.second ∙ k.second;
  events = h.events ∙ k.events;
  fuel = h.fuel ∙ k.fuel;
}

-- what the parts ps come to after what is built so far
unfoldable pub rest : Marks → Frame → List Code.Part → Building → Building
rest m f ps b = elim b [ built l w ↦ build m f ps l w | failed n w ↦ failed n w ]

-- the loop's invariant: the rest of the code line starts at `at`, and the line and the state t are what is built so far
pub record Partly (m : Marks) (code : Bytes) (c : Call) (s : State) (line : Text) (t : State) (at : ℕ) : Type 0 where
  pub is : (text : Bytes) (o : Outputs)
      → build m (frame_of m text c) (parse m true code).parts [] (shared_of s o)
      ≡ build m (frame_of m text c) (parse m (eqb at 0) (drop at code)).parts (text_of line) (shared_of t o)
  pub ahead : Ahead m code at
  pub keeps : Keeps s t

module _ {m : Marks} {code : Bytes} {c : Call} {s : State} {line : Text} {u : State} {at : ℕ} (h : Partly m code c s line u at) {t : Token} (g : ReadsToken m code at (eqb at 0) t) where
  -- the code line is at its end
  pub partly_ends : {k : Ending} → t ≡ Ends k → Builds m code c s line (Ok k) u
  unfolding carry_out build finish_built built_step effect Code.only
  partly_ends q =
      let y = ahead_ends h.ahead g q in
      record {
        same = λ text room o.
            let f = frame_of m text c in
            ap (λ x. finish_built room m (parse m true code).ending f x)
            (h.is text o ∙ ap (λ x. build m f x.parts (text_of line) (shared_of u o)) (says_ends g q))
            ∙ ap (λ x. finish room m x (text_of line) f (shared_of u o)) y.is;
        keeps = h.keeps;
        ranged = y.ranged;
        effect = ap effect_of y.is;
      }

  module _ {p : Part} {e : ℕ} (q : t ≡ Has p e) {line' : Text} {s' : State} {b : Result Unit RunFault} (d : AddsPart m c p line u b line' s') where
    -- what the part and the rest of the code line come to
    step_has : (text : Bytes) (o : Outputs) → build m (frame_of m text c) (parse m true code).parts [] (shared_of s o)
        ≡ rest m (frame_of m text c) (parse m (eqb e 0) (drop e code)).parts (line_step (text_of line') b (shared_of s' o))
    unfolding build Code.onto rest
    step_has text o =
        h.is text o ∙ ap (λ x. build m (frame_of m text c) x.parts (text_of line) (shared_of u o)) (says_has g q)
        ∙ ap (λ x. rest m (frame_of m text c) (parse m (eqb e 0) (drop e code)).parts x) ((d.adds text).is o)

    -- one part more
    pub partly_more : {a : Unit} → b ≡ Ok a → Partly m code c s line' s' e
    unfolding rest line_step
    partly_more z = record {
      is = λ text o. step_has text o ∙ ap (λ x. rest m (frame_of m text c) (parse m (eqb e 0) (drop e code)).parts (line_step (text_of line') x (shared_of s' o))) z;
      ahead = ahead_more h.ahead g q;
      keeps = keeps_more h.keeps (d.adds []).keeps;
    }

    -- a part that ends the run
    pub partly_fails : {f : RunFault} {r : Result Ending RunFault} → b ≡ Err f → IsErrAnd r (λ x. x ≡ f) → Builds m code c s line' r s'
    unfolding carry_out finish_built built_step rest line_step
    partly_fails {r = Ok x} z y = absurd y
    partly_fails {f = f} {r = Err x} z y =
        subst (λ (x : RunFault). Builds m code c s line' (Err x) s') (sym y)
        (record {
          same = λ text room o. ap (λ x. finish_built room m (parse m true code).ending (frame_of m text c) x)
              (step_has text o ∙ ap (λ x. rest m (frame_of m text c) (parse m (eqb e 0) (drop e code)).parts (line_step (text_of line') x (shared_of s' o))) z);
          keeps = keeps_more h.keeps (d.adds []).keeps;
          ranged = tt;
          effect = tt;
        })
