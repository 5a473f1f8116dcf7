-- Outputs and states that follow one another.
use mathlib.Core.Path.{◌≡◌, refl, sym, ap, subst, ◌∙◌}
use mathlib.Core.Bool.{false}
use Prim.Native.Nat.{ℕ, ◌-◌, ◌+◌, ◌≤◌}
use native.Mathlib.Omega.{arith}
use lib.ListN.{length, take, drop}
use lib.Seq.{take-take, drop-drop}
use Rattle.model.specs.Text.{Bytes}
use Rattle.model.specs.Machine.{rooms, Outputs}
use Rattle.model.proofs.Choices.{false-not-true}
use Rattle.state.specs.declared.State.{State}
use Rattle.state.specs.State.{Sound}
use Rattle.call.specs.declared.Call.{Call}
use Rattle.call.specs.Params.{Moves}
use Rattle.answer.specs.Answers.{Answer, is_left, rooms_of}
use Rattle.answer.specs.Kept.{Extends, ExtendsBoth, Stays, OnlyMoves, Follows}

pub extends_none : {o : Bytes} {w : ℕ} → w ≤ length o → Extends o w o w
extends_none h = record { front = refl; rest = refl; long = refl; more = omega arith; fits = h }

pub extends_more : {o : Bytes} {w : ℕ} {o₁ : Bytes} {w₁ : ℕ} {o₂ : Bytes} {w₂ : ℕ} → Extends o w o₁ w₁ → Extends o₁ w₁ o₂ w₂ → Extends o w o₂ w₂
extends_more {o} {w} {o₁} {w₁} {o₂} {w₂} a b =
    let la = a.long in
    let j : ℕ = w₂ - w₁ in
    let z : w₂ ≡ w₁ + j = omega (arith, b.more) in
    record {
      front = sym (take-take w w₁ o₂ a.more) ∙ ap (λ (x : Bytes). take w x) b.front ∙ take-take w w₁ o₁ a.more ∙ a.front;
      rest = b.rest ∙ ap (λ (k : ℕ). drop k o₁) z ∙ sym (drop-drop j w₁ o₁) ∙ ap (λ (x : Bytes). drop j x) a.rest ∙ drop-drop j w₁ o
          ∙ ap (λ (k : ℕ). drop k o) (sym z);
      long = b.long ∙ la;
      more = omega (arith, a.more, b.more);
      fits = omega (arith, b.fits);
    }

pub both_none : {text : Bytes} {s : State} {o : Outputs} → Sound text s o → ExtendsBoth o s o s
both_none h = record { first = extends_none h.written; second = extends_none h.second }

pub both_more : {o o₁ o₂ : Outputs} {s s₁ s₂ : State} → ExtendsBoth o s o₁ s₁ → ExtendsBoth o₁ s₁ o₂ s₂ → ExtendsBoth o s o₂ s₂
both_more a b = record { first = extends_more a.first b.first; second = extends_more a.second b.second }

-- the rooms stay
pub rooms_kept : {o o' : Outputs} {s s' : State} → ExtendsBoth o s o' s' → rooms_of o' ≡ rooms_of o
rooms_kept x = λ i. rooms (x.first.long i) (x.second.long i)

pub stays_same : (s : State) → Stays s s
stays_same s = record { from = omega arith; calls = refl; events = refl; fuel = refl }

-- a call that stays as it was
pub only_itself : {c : Call} {r : Answer} → OnlyMoves c r c
only_itself = record { rest = refl; kept = λ _. refl }

-- a call that goes on at another place
pub only_moves : {c : Call} {n : ℕ} {r : Answer} {c' : Call} → Moves c n c' → is_left r ≡ false → OnlyMoves c r c'
only_moves {c} moves e = record {
  rest = subst (λ (x : Call). x ≡ record c { next = x.next }) (sym moves.is) refl;
  kept = λ f. false-not-true (sym e ∙ f);
}

pub follows_itself : {text : Bytes} {s : State} {o : Outputs} → Sound text s o → Follows text s o s o
follows_itself h = record { sound = h; from = omega arith; fuel = omega arith; extends = both_none h }

pub follows_trans : {text : Bytes} {s s₁ s₂ : State} {o o₁ o₂ : Outputs} → Follows text s o s₁ o₁ → Follows text s₁ o₁ s₂ o₂ → Follows text s o s₂ o₂
follows_trans g h = record {
  sound = h.sound;
  from = omega (arith, g.from, h.from);
  fuel = omega (arith, g.fuel, h.fuel);
  extends = both_more g.extends h.extends;
}
