-- Each way that a skip ends in a call, and each answer to a line that a call offered.
use mathlib.Core.Path.{◌≡◌, refl, sym, ap, ◌∙◌, subst}
use mathlib.Core.Logic.{◌⊎◌, inl, inr}
use mathlib.Core.Bool.{false}
use mathlib.Core.Option.{none}
use mathlib.Core.List.{List, ◌∷◌}
use Prim.Native.Nat.{ℕ}
use Rattle.model.specs.declared.Marks.{Marks}
use Rattle.model.specs.Text.{Bytes}
use Rattle.model.specs.Load.{body_at}
use Rattle.model.specs.Report.{Tally}
use Rattle.model.specs.Machine as Machine
use Rattle.model.specs.Machine.{Frame, running, resume_at, state_with, pass_over, skip_from, skip_in, Outputs}
use Rattle.model.proofs.Choices.{false-not-true}
use Rattle.std.specs.Prelude.{Result, Ok, Err}
use Rattle.faults.specs.declared.RunFault.{RunFault}
use Rattle.body.specs.declared.Passed.{Passed}
use Rattle.body.specs.declared.Passed.TheVariants.{Landed, Beyond}
use Rattle.body.specs.Steps.{PassesOver}
use Rattle.body.proofs.Laws.{passes_landed, passes_beyond, passes_bad, bad_skip, landed_within}
use Rattle.state.specs.declared.State.{State}
use Rattle.state.specs.State.{shared_of, state_of}
use Rattle.call.specs.declared.Call.{Call}
use Rattle.call.specs.Call.{frame_of}
use Rattle.call.specs.Params.{Moves}
use Rattle.answer.specs.declared.Turn.{Turn}
use Rattle.answer.specs.declared.Turn.TheVariants.{Continues, Offers, Back, Ends}
use Rattle.answer.specs.Answers.{Answer, is_left, settle, next_of}
use Rattle.answer.proofs.Following.{only_itself, only_moves}
use Rattle.answer.proofs.Expansion.{skip-same}
use Rattle.landing.specs.Landing.{LandsSkip, LandsTurn}

-- ---- a skip in a call

-- what a skip comes to, by where it ends
skipped : (m : Marks) (text : Bytes) (c : Call) (n : ℕ) (z : Machine.Passed) → pass_over m n 0 (body_at m text c.next) ≡ z → (s : State) (fs : List Frame) (y : Tally) (o : Outputs)
    → settle (skip_in m n (frame_of m text c ∷ fs) (shared_of s o) (state_of text none fs y s o))
    ≡ settle (skip_from (frame_of m text c) fs (shared_of s o) (state_of text none fs y s o) (λ k. skip_in m k fs (shared_of s o) (state_of text none fs y s o)) z)
unfolding skip_in
skipped m text c n z q s fs y o =
    ap (λ (x : Machine.Passed). settle (skip_from (frame_of m text c) fs (shared_of s o) (state_of text none fs y s o) (λ k. skip_in m k fs (shared_of s o) (state_of text none fs y s o)) x)) q

module _ {m : Marks} {text : Bytes} {c : Call} {n : ℕ} {x : Result Passed RunFault} (p : PassesOver m text c.next n x) where
  -- it lands on a line of the body
  pub lands_on : {i : ℕ} {c' : Call} → x ≡ Ok (Landed i) → Moves c i c' → LandsSkip m text c n (Ok Continues) c'
  unfolding settle next_of skip_from state_with resume_at
  lands_on {i} {c'} z moves = record {
    settled = refl;
    moves = only_moves moves refl;
    placed = λ h. moves.placed text h (landed_within p z);
    same = λ fs y line s o. skipped m text c n _ (passes_landed p z) s fs y o ∙ ap (λ (f : Frame). running (state_of text none (f ∷ fs) y s o)) (sym (moves.frame m text));
  }

  -- it goes past the body's end
  pub lands_beyond : {k : ℕ} → x ≡ Ok (Beyond k) → LandsSkip m text c n (Ok (Back k)) c
  unfolding next_of skip_from
  lands_beyond z = record { settled = refl; moves = only_itself; placed = λ h. h; same = λ fs y line s o. skipped m text c n _ (passes_beyond p z) s fs y o }

  -- it ends inside an iteration
  pub lands_badly : {fault : RunFault} {r : Answer} → x ≡ Err fault → r ≡ Err fault → LandsSkip m text c n r c
  unfolding settle next_of skip_from state_with
  lands_badly q e = subst (λ (r : Answer). LandsSkip m text c n r c) (sym (e ∙ ap (λ (f : RunFault). Err f) (bad_skip p q))) record {
    settled = refl;
    moves = only_itself;
    placed = λ h. h;
    same = λ fs y line s o. skipped m text c n _ (passes_bad p q) s fs y o;
  }

-- ---- an answer

module _ {m : Marks} {text : Bytes} {c : Call} where
  -- what was offered is done with, and lines are skipped
  pub turns_back : {r : Answer} {n : ℕ} {a : Answer} {c' : Call} → r ≡ Ok (Back n) → LandsSkip m text c n a c' → LandsTurn m text c r a c'
  unfolding next_of state_with
  turns_back {n = n} {a} {c'} e h = subst (λ (r : Answer). LandsTurn m text c r a c') (sym e) record {
    settled = λ _. h.settled;
    moves = h.moves;
    placed = h.placed;
    same = λ _ fs y line s o.
        let f = frame_of m text c in
        ap settle (skip-same m n (f ∷ fs) fs (shared_of s o) (shared_of s o) (state_of text none (f ∷ fs) y s o)) ∙ h.same fs y line s o;
  }

  -- a fault ends the run
  pub turns_fault : {r a : Answer} {fault : RunFault} → r ≡ Err fault → a ≡ Err fault → LandsTurn m text c r a c
  unfolding next_of
  turns_fault e f = rw (e, f) (record { settled = λ _. refl; moves = only_itself; placed = λ h. h; same = λ _ fs y line s o. refl })

  -- where the call goes on there is no answer to an offer
  open_turn : {r : Answer} → is_left r ≡ false → LandsTurn m text c r r c
  open_turn f = record { settled = λ g. false-not-true (sym f ∙ g); moves = only_itself; placed = λ h. h; same = λ g. false-not-true (sym f ∙ g) }

  -- the run ends
  ended_turn : LandsTurn m text c (Ok Ends) (Ok Ends) c
  unfolding next_of
  ended_turn = record { settled = λ _. refl; moves = only_itself; placed = λ h. h; same = λ _ fs y line s o. refl }

  -- any other turn ends the run, or leaves no call and is no answer to an offer
  pub turns_else : {r : Answer} {z : Turn} → r ≡ Ok z → (z ≡ Continues) ⊎ ((z ≡ Offers) ⊎ (z ≡ Ends)) → LandsTurn m text c r (Ok z) c
  turns_else {z = z} e f = subst (λ (r : Answer). LandsTurn m text c r (Ok z) c) (sym e) (by f)
    where
      by : (z ≡ Continues) ⊎ ((z ≡ Offers) ⊎ (z ≡ Ends)) → LandsTurn m text c (Ok z) (Ok z) c
      by (inl e) = open_turn (ap (λ (t : Turn). is_left (Ok t)) e)
      by (inr (inl e)) = open_turn (ap (λ (t : Turn). is_left (Ok t)) e)
      by (inr (inr e)) = subst (λ (t : Turn). LandsTurn m text c (Ok t) (Ok t) c) (sym e) ended_turn
