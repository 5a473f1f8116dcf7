-- A line written whole, or not at all, and what that comes to.
use mathlib.Core.Path.{◌≡◌, refl, sym, ap, subst, ◌∙◌}
use mathlib.Core.Bool.{Bool, true, false}
use mathlib.Core.Option.{none, some}
use mathlib.Core.List.{List, [], ◌∷◌, ◌++◌}
use Prim.Native.Nat.{ℕ, ◌+◌, ◌-◌, ◌≤◌, ◌<◌}
use native.Mathlib.Omega.{arith}
use borrow.Author.Tests.{leb-true, leb-false}
use borrow.Rule.Slice.PartMut.{mid_of, put_mid, put_same, take_put}
use lib.ListN.{length, take, drop, set}
use lib.Seq.{length-take-le, take-length}
use Rattle.std.specs.Prelude.{Result, Ok, Err}
use mathlib.Core.Option as Math
use Rattle.faults.specs.declared.RunFault.{RunFault}
use Rattle.faults.specs.declared.RunFault.TheVariants.{NoRoom}
use Rattle.model.specs.declared.Marks.{Marks}
use Rattle.model.specs.declared.Channel.{Channel}
use Rattle.model.specs.declared.Channel.TheVariants.{Nowhere, First, Second}
use Rattle.model.specs.Text.{Bytes}
use Rattle.model.specs.Report.{Tally}
use Rattle.model.specs.Machine.{Outputs, outputs, Frame, Shared, continues, appended, with_first, with_second, wrote, goes_written, write_to, running, ended, state_with, stepped, passed, pass_through}
use Rattle.model.proofs.Text.{part_length}
use Rattle.buffer.specs.Pasted.{Pasted}
use Rattle.buffer.specs.Written.{Written}
use Rattle.buffer.proofs.Pasted.{pasted_long, front_pasted}
use Rattle.buffer.proofs.Written.{written_store, written_none, written-length, written-take, written-drop}
use Rattle.write.proofs.Fields.{written_behind}
use Rattle.model.proofs.Choices.{when_true, when_false, false-not-true}
use Rattle.state.specs.declared.State.{State}
use Rattle.state.specs.State.{shared_of, state_of, with_written, Sound}
use Rattle.call.specs.declared.Call.{Call}
use Rattle.call.specs.Call.{frame_of, Placed}
use Rattle.answer.specs.declared.Turn.TheVariants.{Continues, Back}
use Rattle.answer.specs.Answers.{goes_on, is_left, settle, next_of, rooms_of}
use Rattle.answer.specs.Kept.{Extends, ExtendsBoth, Comes, Follows}
use Rattle.answer.proofs.Following.{extends_none, follows_itself}
use Rattle.answer.proofs.Coming.{comes_as, came_fault}
use Rattle.answer.proofs.Expansion.{skip-none}
use Rattle.write.specs.Output.{has_room, Puts, has_room_on, Writes, PassesThrough, done_with}

-- ---- one output

-- a slice as long as a line becomes it, when the line is copied to its front
pub line_copied : {l o o' : Bytes} → Pasted o 0 l (length l) o' → length o ≡ length l → o' ≡ l
line_copied {l} {o} {o'} g h =
    let e : length o' ≡ length l = pasted_long g (omega arith) (omega arith) ∙ h in
    sym (take-length o') ∙ ap (λ (n : ℕ). take n o') e ∙ front_pasted g (omega arith)

-- the front becomes a line, and a byte 10 comes after it
pub puts_line : {l o f : Bytes} {n : ℕ} → n ≡ length l → n < length o → f ≡ l → Puts l o (Ok (n + 1)) (set (f ++ drop n o) n 10)
puts_line {l} {o} {f} {n} e k g =
    let line : Written o l n (f ++ drop n o) = record { is = ap (λ (x : Bytes). x ++ drop n o) g; long = sym e; fits = omega arith } in
    record {
      fits = λ _. (ap (λ (i : ℕ). Ok (i + 1)) e, subst (λ (i : ℕ). Written o (l ++ (10 ∷ [])) (i + 1) (set (f ++ drop n o) n 10)) e (written_store 10 line k));
      full = λ h. absurd (omega arith);
    }

-- an output o becomes o' with the line l and a byte 10 after its first w bytes; or there is no room for them, and nothing changes
pub record PutsAfter (l o : Bytes) (w : ℕ) (r : Result ℕ RunFault) (o' : Bytes) : Type 0 where
  pub fits : has_room l w o ≡ true → (r ≡ Ok (length l + 1)) × (take (w + (length l + 1)) o' ≡ take w o ++ (l ++ (10 ∷ []))) × Extends o w o' (w + (length l + 1))
  pub full : has_room l w o ≡ false → (r ≡ Err NoRoom) × (o' ≡ o)

-- what is put to the rest of an output
pub puts_after : {l o : Bytes} {w : ℕ} {r : Result ℕ RunFault} {rest : Bytes} → w ≤ length o → Puts l (mid_of w (length o - w) o) r rest → PutsAfter l o w r (put_mid w (length o - w) o rest)
puts_after {l} {o} {w} {r} {rest} h p =
    let n = length-take-le w o h in
    let k = part_length o w (length o) (omega arith) in
    record {
      fits = λ e.
          let b = leb-true _ _ e in
          let z = p.fits (omega arith) in
          let v = written_behind (written_none o w h) z.1 in
          (z.0, written-take v, record { front = take_put w (length o - w) o rest h; rest = written-drop v _ (omega arith); long = written-length v; more = omega arith; fits = v.fits });
      full = λ e.
          let b = leb-false _ _ e in
          let z = p.full (omega arith) in
          (z.0, ap (λ (x : Bytes). put_mid w (length o - w) o x) z.1 ∙ put_same w (length o - w) o);
    }

-- ---- a channel

-- nothing is written
pub writes_nowhere : {ch : Channel} {l : Bytes} {s : State} {o : Outputs} → ch ≡ Nowhere → s.written ≤ length o.first → s.second ≤ length o.second → Writes ch l s o (Ok tt) s o
unfolding wrote
writes_nowhere {ch} {l} {s} {o} e h k = subst (λ (x : Channel). Writes x l s o (Ok tt) s o) (sym e) (record {
  fits = λ _. (refl, refl, refl);
  full = λ e. false-not-true (sym e);
  extends = record { first = extends_none h; second = extends_none k };
})

-- an output whose part from the byte w on has become rest
abbrev put_into : ℕ → Bytes → Bytes → Bytes
put_into w o rest = put_mid w (length o - w) o rest

module _ {ch : Channel} {l : Bytes} {s : State} {o b : Bytes} (h : s.written ≤ length o) (h' : s.second ≤ length b) {r : Result ℕ RunFault} {rest : Bytes} where
  -- the line is written to the first output
  pub writes_first : {n : ℕ} → ch ≡ First → Puts l (mid_of s.written (length o - s.written) o) r rest → r ≡ Ok n
      → Writes ch l s (outputs o b) (Ok tt) (with_written s (s.written + n) s.second) (outputs (put_into s.written o rest) b)
  unfolding wrote appended with_first
  writes_first {n} e p u =
      subst (λ (x : Channel). Writes x l s (outputs o b) (Ok tt) (with_written s (s.written + n) s.second) (outputs (put_into s.written o rest) b)) (sym e) (by (has_room l s.written o) refl (puts_after h p))
    where
      by : (k : Bool) → has_room l s.written o ≡ k → PutsAfter l o s.written r (put_into s.written o rest) → Writes First l s (outputs o b) (Ok tt) (with_written s (s.written + n) s.second) (outputs (put_into s.written o rest) b)
      by true k p =
          let q = p.fits k in
          let z : s.written + n ≡ s.written + (length l + 1) = (let y = q.0 in cc) in
          record {
            fits = λ _. (
              refl,
              refl,
              ap (with_first (shared_of s (outputs o b))) (when_true _ _ k)
                  ∙ ap (λ (x : Bytes). some (record { symbols = s.symbols; store = s.store; output = outputs x (take s.second b) })) (sym q.1 ∙ ap (λ (j : ℕ). take j (put_into s.written o rest)) (sym z)),
            );
            full = λ f. false-not-true (sym f ∙ k);
            extends = record { first = subst (λ (j : ℕ). Extends o s.written (put_into s.written o rest) j) (sym z) q.2; second = extends_none h' };
          }
      by false k p = absurd (let q = (p.full k).0 in cc)

  -- or to the second
  pub writes_second : {n : ℕ} → ch ≡ Second → Puts l (mid_of s.second (length b - s.second) b) r rest → r ≡ Ok n
      → Writes ch l s (outputs o b) (Ok tt) (with_written s s.written (s.second + n)) (outputs o (put_into s.second b rest))
  unfolding wrote appended with_second
  writes_second {n} e p u =
      subst (λ (x : Channel). Writes x l s (outputs o b) (Ok tt) (with_written s s.written (s.second + n)) (outputs o (put_into s.second b rest))) (sym e) (by (has_room l s.second b) refl (puts_after h' p))
    where
      by : (k : Bool) → has_room l s.second b ≡ k → PutsAfter l b s.second r (put_into s.second b rest) → Writes Second l s (outputs o b) (Ok tt) (with_written s s.written (s.second + n)) (outputs o (put_into s.second b rest))
      by true k p =
          let q = p.fits k in
          let z : s.second + n ≡ s.second + (length l + 1) = (let y = q.0 in cc) in
          record {
            fits = λ _. (
              refl,
              refl,
              ap (with_second (shared_of s (outputs o b))) (when_true _ _ k)
                  ∙ ap (λ (x : Bytes). some (record { symbols = s.symbols; store = s.store; output = outputs (take s.written o) x })) (sym q.1 ∙ ap (λ (j : ℕ). take j (put_into s.second b rest)) (sym z)),
            );
            full = λ f. false-not-true (sym f ∙ k);
            extends = record { first = extends_none h; second = subst (λ (j : ℕ). Extends b s.second (put_into s.second b rest) j) (sym z) q.2 };
          }
      by false k p = absurd (let q = (p.full k).0 in cc)

  -- there is no room in the first
  pub no_room_first : {fault : RunFault} {q : Result Unit RunFault} → ch ≡ First → Puts l (mid_of s.written (length o - s.written) o) r rest → r ≡ Err fault → q ≡ Err fault
      → Writes ch l s (outputs o b) q s (outputs (put_into s.written o rest) b)
  unfolding wrote appended with_first
  no_room_first {fault} {q} e p u v =
      subst (λ (x : Channel). Writes x l s (outputs o b) q s (outputs (put_into s.written o rest) b)) (sym e) (by (has_room l s.written o) refl (puts_after h p))
    where
      by : (k : Bool) → has_room l s.written o ≡ k → PutsAfter l o s.written r (put_into s.written o rest) → Writes First l s (outputs o b) q s (outputs (put_into s.written o rest) b)
      by true k p = absurd (let q = (p.fits k).0 in cc)
      by false k p =
          let q = p.full k in
          record {
            fits = λ f. false-not-true (sym k ∙ f);
            full = λ _. (let y = q.0 in cc, refl, ap (λ (x : Bytes). outputs x b) q.1, ap (with_first (shared_of s (outputs o b))) (when_false _ _ k));
            extends = record { first = subst (λ (x : Bytes). Extends o s.written x s.written) (sym q.1) (extends_none h); second = extends_none h' };
          }

  -- or in the second
  pub no_room_second : {fault : RunFault} {q : Result Unit RunFault} → ch ≡ Second → Puts l (mid_of s.second (length b - s.second) b) r rest → r ≡ Err fault → q ≡ Err fault
      → Writes ch l s (outputs o b) q s (outputs o (put_into s.second b rest))
  unfolding wrote appended with_second
  no_room_second {fault} {q} e p u v =
      subst (λ (x : Channel). Writes x l s (outputs o b) q s (outputs o (put_into s.second b rest))) (sym e) (by (has_room l s.second b) refl (puts_after h' p))
    where
      by : (k : Bool) → has_room l s.second b ≡ k → PutsAfter l b s.second r (put_into s.second b rest) → Writes Second l s (outputs o b) q s (outputs o (put_into s.second b rest))
      by true k p = absurd (let q = (p.fits k).0 in cc)
      by false k p =
          let q = p.full k in
          record {
            fits = λ f. false-not-true (sym k ∙ f);
            full = λ _. (let y = q.0 in cc, refl, ap (λ (x : Bytes). outputs o x) q.1, ap (with_second (shared_of s (outputs o b))) (when_false _ _ k));
            extends = record { first = extends_none h; second = subst (λ (x : Bytes). Extends b s.second x s.second) (sym q.1) (extends_none h') };
          }

-- a line without a reading is written, or there is no room for it
module _ {line : Bytes} {s : State} {o : Bytes} (h : s.written ≤ length o) {r : Result ℕ RunFault} {rest : Bytes} (p : Puts line (mid_of s.written (length o - s.written) o) r rest) where
  pub passes_through : {n : ℕ} → r ≡ Ok n → PassesThrough line s o (Ok tt) (with_written s (s.written + n) s.second) (put_into s.written o rest)
  passes_through u = record { writes = λ b k. writes_first h k refl p u }

  pub passes_none : {fault : RunFault} {q : Result Unit RunFault} → r ≡ Err fault → q ≡ Err fault → PassesThrough line s o q s (put_into s.written o rest)
  passes_none u v = record { writes = λ b k. no_room_first h k refl p u v }

-- ---- what a line that is written comes to

-- the state, with what is written since
written_sound : {text : Bytes} {s : State} {o : Outputs} {n k : ℕ} {o' : Outputs} → Sound text s o → ExtendsBoth o s o' (with_written s n k) → Sound text (with_written s n k) o'
written_sound h x = record {
  within = h.within;
  lines = h.lines;
  written = omega (arith, x.first.long, x.first.fits);
  second = omega (arith, x.second.long, x.second.fits);
  symbols = h.symbols;
  calls = h.calls;
  total = h.total;
}

-- F1: the call goes on
pub wrote_on : {m : Marks} {text : Bytes} {ch : Channel} {c : Call} {l : Bytes} {s : State} {o : Outputs} {b : Bytes} {r : Result Unit RunFault} {s' : State} {o' : Outputs} → Sound text s o → Placed text c → Writes ch l s o r s' o'
    → Comes m text (write_to (rooms_of o) ch l (frame_of m text c) (shared_of s o)) s o b (goes_on r) s' c o'
unfolding write_to goes_written settle next_of stepped state_with
wrote_on {m} {text} {ch} {c} {l} {s} {o} {b} {r} {s'} {o'} h q v = by (has_room_on ch l s o) refl
  where
    f : Frame
    f = frame_of m text c

    by : (k : Bool) → has_room_on ch l s o ≡ k → Comes m text (write_to (rooms_of o) ch l f (shared_of s o)) s o b (goes_on r) s' c o'
    by true k =
        let z = v.fits k in
        let grown : ExtendsBoth o s o' (with_written s s'.written s'.second) = subst (λ (x : State). ExtendsBoth o s o' x) z.1 v.extends in
        comes_as (ap (goes_written f (shared_of s o)) z.2)
        (subst (λ (x : Result Unit RunFault). Comes m text (continues f (shared_of s' o')) s o b (goes_on x) s' c o') (sym z.0)
        (subst (λ (x : State). Comes m text (continues f (shared_of x o')) s o b (Ok Continues) x c o') (sym z.1)
        (record {
          same = λ fs y. refl;
          sound = written_sound h grown;
          placed = q;
          stays = record { from = omega arith; calls = refl; events = refl; fuel = refl };
          extends = grown;
        })))
    by false k =
        let z = v.full k in
        subst (λ (x : State). Comes m text (write_to (rooms_of o) ch l f (shared_of s o)) s o b (goes_on r) x c o') (sym z.1)
        (subst (λ (x : Outputs). Comes m text (write_to (rooms_of o) ch l f (shared_of s o)) s o b (goes_on r) s c x) (sym z.2)
        (came_fault h q (ap goes_on z.0) (ap (goes_written f (shared_of s o)) z.3)))

-- a line without a reading: its caller goes on
module _ {l : Bytes} {s : State} {o : Outputs} {r : Result Unit RunFault} {s' : State} {o' : Outputs} (v : Writes First l s o r s' o') where
  pub wrote_back : (m : Marks) (text : Bytes) (fs : List Frame) (y : Tally) (c : Call) (line : Bytes) → settle (pass_through (rooms_of o) l (state_of text none fs y s o)) ≡ next_of m text fs y (done_with r) c s' line o'
  unfolding pass_through passed settle next_of state_with
  wrote_back m text fs y c line = by (has_room_on First l s o) refl
    where
      by : (k : Bool) → has_room_on First l s o ≡ k → settle (pass_through (rooms_of o) l (state_of text none fs y s o)) ≡ next_of m text fs y (done_with r) c s' line o'
      by true k =
          let z = v.fits k in
          ap (λ (x : Math.Option Shared). settle (passed (state_of text none fs y s o) x)) z.2
          ∙ ap (λ (x : State). running (state_with (state_of text none fs y s o) none fs (shared_of x o'))) z.1
          ∙ sym (skip-none m text fs y (with_written s s'.written s'.second) o')
          ∙ ap (λ (x : State). next_of m text fs y (Ok (Back 0)) c x line o') (sym z.1)
          ∙ ap (λ (x : Result Unit RunFault). next_of m text fs y (done_with x) c s' line o') (sym z.0)
      by false k =
          let z = v.full k in
          ap (λ (x : Math.Option Shared). settle (passed (state_of text none fs y s o) x)) z.3
          ∙ ap (λ (x : Outputs). ended 13 (state_of text none [] y s x)) (sym z.2)
          ∙ ap (λ (x : State). ended 13 (state_of text none [] y x o')) (sym z.1)
          ∙ ap (λ (x : Result Unit RunFault). next_of m text fs y (done_with x) c s' line o') (sym z.0)

  pub wrote_follows : {text : Bytes} → Sound text s o → Follows text s o s' o'
  wrote_follows {text} h = by (has_room_on First l s o) refl
    where
      by : (k : Bool) → has_room_on First l s o ≡ k → Follows text s o s' o'
      by true k =
          let z = (v.fits k).1 in
          let grown : ExtendsBoth o s o' (with_written s s'.written s'.second) = subst (λ (x : State). ExtendsBoth o s o' x) z v.extends in
          subst (λ (x : State). Follows text s o x o') (sym z) (record { sound = written_sound h grown; from = omega arith; fuel = omega arith; extends = grown })
      by false k =
          let z = v.full k in
          subst (λ (x : State). Follows text s o x o') (sym z.1) (subst (λ (x : Outputs). Follows text s o s x) (sym z.2) (follows_itself h))

  pub wrote_fuel : s'.fuel ≡ s.fuel
  wrote_fuel = by (has_room_on First l s o) refl
    where
      by : (k : Bool) → has_room_on First l s o ≡ k → s'.fuel ≡ s.fuel
      by true k = ap (λ (x : State). x.fuel) (v.fits k).1
      by false k = ap (λ (x : State). x.fuel) (v.full k).1

-- its line is done with
pub wrote_left : (r : Result Unit RunFault) → is_left (done_with r) ≡ true
wrote_left (Ok u) = refl
wrote_left (Err fault) = refl
