-- Passes of iterations, by the calls that they make.
use mathlib.Core.Path.{◌≡◌, refl, sym, ap, ap₂, subst, ◌∙◌}
use mathlib.Core.List.{List, [], ◌∷◌}
use Prim.Native.Nat.{ℕ, suc, ◌+◌, ◌-◌, ◌≤◌, ◌<◌}
use native.Mathlib.Omega.{arith}
use lib.ListN.{length, get_or, set, drop, length-drop, drop_of_length-le, get_or-map}
use Rattle.std.specs.Prelude.{Option, Some, None, Result, Ok, Err}
use Rattle.std.proofs.Math.Option as Math
use Rattle.faults.specs.declared.RunFault.{RunFault}
use Rattle.model.specs.declared.Marks.{Marks}
use Rattle.model.specs.Text.{Bytes, part}
use Rattle.model.specs.Load.{body_at}
use Rattle.model.specs.Machine.{Loop, by_count, Frame, Shared, continues, halts, param, with_param, resume_at, Piece, pass_of, take_pass, next_pass, end_pass}
use Rattle.pass.specs.declared.Taken.{Taken}
use Rattle.pass.specs.Pass.{piece_at, Takes}
use Rattle.call.specs.declared.Text.{Text}
use Rattle.call.specs.declared.Param.{Param}
use Rattle.call.specs.declared.Span.{Span}
use Rattle.call.specs.declared.Pieces.{Pieces}
use Rattle.call.specs.declared.Kind.{Kind}
use Rattle.call.specs.declared.Kind.TheVariants as Kinds
use Rattle.call.specs.declared.Iteration.{Iteration}
use Rattle.call.specs.declared.Call.{Call}
use Rattle.call.specs.Call.{Holds, text_of, no_param, no_iteration, rest_of, list_of, loop_by, loop_of, loops_of, frame_of, PlacedPieces, PlacedLoop, Placed}
use Rattle.call.specs.Params.{Enters}
use Rattle.call.proofs.Calls.{set_texts, set_delimiters, same_delimiters}
use Rattle.call.proofs.Loops.{loops_top, loops_past, loops_entered, placed_entered}
use Rattle.iterate.specs.Iterate.{pass_step, Has, again_step, taken_step, TakesPass, GoesOn, StartsPass, EndsPass}

-- ---- take_pass

module _ {m : Marks} {text : Bytes} {x : Pieces} {line : Bytes} {r : Result Taken RunFault} (p : PlacedPieces text x) (l : line ≡ text_of x.line)
    (k : Takes m line x.from (part text x.list.start x.list.end) r) where
  taken : pass_of m (list_of text x) (rest_of x) ≡ piece_at (text_of x.line) x.from r
  taken = ap (λ (s : Bytes). pass_of m (list_of text x) (drop x.from s)) (sym l) ∙ k.is ∙ ap (λ (s : Bytes). piece_at s x.from r) l

  pub pass_fails : {ps : List Param} {e : RunFault} {s : Result Unit RunFault} → r ≡ Err e → s ≡ Err e → TakesPass m text x ps s x ps
  unfolding take_pass piece_at taken_step
  pass_fails {ps} u g =
      let n = rw u at k.fault in
      let t = rw u at taken in
      rw g (record {
        step = λ after ls f w h.
            ap (λ (o : Math.Option Piece). take_pass x.param o (list_of text x) (text_of x.before) after ls f w) t ∙ ap (λ (n : ℕ). halts n w) (sym n);
        placed = p;
      })

  pub pass_goes_on : {ps : List Param} {t : Taken} {q : Param} → r ≡ Ok t → Holds (part line x.from t.end) q.text → q.delimiter ≡ t.delimiter
      → TakesPass m text x ps (Ok tt) (record x { from = t.rest }) (set ps (x.param - 1) q)
  unfolding take_pass piece_at taken_step
  pass_goes_on {ps} {t} {q} u h e =
      let b = rw u at k.bounds in
      let g = rw u at taken in
      let holds : Holds (part (text_of x.line) x.from t.end) q.text = subst (λ (s : Bytes). Holds (part s x.from t.end) q.text) l h in
      let i : ℕ = x.param - 1 in
      record {
        step = λ after ls f w h.
            ap (λ (o : Math.Option Piece). take_pass x.param o (list_of text x) (text_of x.before) after ls f w) g
            ∙ rw (h.params, h.delimiters, set_texts ps i q holds, set_delimiters ps i q e) refl;
        placed = record { some = p.some; param = p.param; list = p.list; end = p.end; from = subst (λ (s : Bytes). t.rest ≤ length s) l b.within };
      }

-- ---- pass_again

next-some : (m : Marks) (d : ℕ) (s ds before : Bytes) (after : List Bytes) (ls : List Loop) (f : Frame) (w : Shared) → 0 < length s
    → next_pass m d s ds before after ls f w ≡ take_pass d (pass_of m ds s) ds before after ls f w
unfolding next_pass
next-some m d [] ds before after ls f w h = absurd (omega arith)
next-some m d (b ∷ s) ds before after ls f w h = refl

module _ (m : Marks) (text : Bytes) (x : Iteration) (ls : List Loop) (f : Frame) (w : Shared) where
  -- a step of the loop that it stands for
  by_kind : {k : Kind} → x.kind ≡ k → end_pass m (loop_of m text x ∷ ls) f w ≡ end_pass m (loop_by text (body_at m text x.after) k ∷ ls) f w
  by_kind e = ap (λ (k : Kind). end_pass m (loop_by text (body_at m text x.after) k ∷ ls) f w) e

  pieces_step : {y : Pieces} → x.kind ≡ Kinds.Pieces y → {line : Bytes} → line ≡ text_of y.line → y.from < length line
      → end_pass m (loop_of m text x ∷ ls) f w
      ≡ take_pass y.param (pass_of m (list_of text y) (rest_of y)) (list_of text y) (text_of y.before) (body_at m text x.after) ls f w
  unfolding end_pass
  pieces_step {y} e l h =
      let n = ap (λ (s : Bytes). length s) l in
      let d = length-drop y.from (text_of y.line) in
      by_kind e ∙ next-some m y.param (rest_of y) (list_of text y) (text_of y.before) (body_at m text x.after) ls f w (omega arith)

module _ {m : Marks} {text : Bytes} {x : Iteration} {ps : List Param} (p : PlacedLoop text x) where
  pub count_ends : {n : ℕ} → x.kind ≡ Kinds.Count n → n ≡ 0 → GoesOn m text x ps (Ok None) (record { after = x.after; kind = Kinds.Count n }) ps
  unfolding end_pass resume_at again_step
  count_ends {n} e z = record {
    step = λ ls f w h. by_kind m text x ls f w e ∙ rw (z, h.params, h.delimiters) refl;
    placed = record { after = p.after; kind = tt };
    within = tt;
  }

  pub count_goes_on : {n : ℕ} → x.kind ≡ Kinds.Count n → ¬ (n ≡ 0) → GoesOn m text x ps (Ok (Some x.after)) (record { after = x.after; kind = Kinds.Count (n - 1) }) ps
  unfolding end_pass resume_at again_step
  count_goes_on {n} e z =
      let s : n ≡ suc (n - 1) = omega arith in
      record {
        step = λ ls f w h. by_kind m text x ls f w e ∙ ap (λ (k : ℕ). end_pass m (by_count k (body_at m text x.after) ∷ ls) f w) s ∙ rw (h.params, h.delimiters) refl;
        placed = record { after = p.after; kind = tt };
        within = p.after;
      }

  module _ {y : Pieces} (e : x.kind ≡ Kinds.Pieces y) {line : Bytes} (l : line ≡ text_of y.line) where
    module _ {r : Result Unit RunFault} {y' : Pieces} {ps' : List Param} (h : y.from < length line) (t : TakesPass m text y ps r y' ps') where
      pub pieces_fail : {fault : RunFault} {s : Result (Option ℕ) RunFault} → r ≡ Err fault → s ≡ Err fault
          → GoesOn m text x ps s (record { after = x.after; kind = Kinds.Pieces y' }) ps'
      unfolding again_step taken_step
      pieces_fail u g = rw g (record {
        step = λ ls f w has. pieces_step m text x ls f w e l h ∙ t.step (body_at m text x.after) ls f w has
            ∙ ap (λ (z : Result Unit RunFault). taken_step text z y' ps' (body_at m text x.after) ls f w) u;
        placed = record { after = p.after; kind = t.placed };
        within = tt;
      })

      pub pieces_go_on : {u : Unit} → r ≡ Ok u → GoesOn m text x ps (Ok (Some x.after)) (record { after = x.after; kind = Kinds.Pieces y' }) ps'
      unfolding again_step taken_step
      pieces_go_on u = record {
        step = λ ls f w has. pieces_step m text x ls f w e l h ∙ t.step (body_at m text x.after) ls f w has
            ∙ ap (λ (z : Result Unit RunFault). taken_step text z y' ps' (body_at m text x.after) ls f w) u;
        placed = record { after = p.after; kind = t.placed };
        within = p.after;
      }

    pub pieces_end : {before : Bytes} {q : Param} → length line ≤ y.from → before ≡ text_of y.before → Holds before q.text → q.delimiter ≡ (get_or ps (y.param - 1) no_param).delimiter
        → GoesOn m text x ps (Ok None) (record { after = x.after; kind = Kinds.Pieces y }) (set ps (y.param - 1) q)
    unfolding end_pass next_pass resume_at with_param again_step
    pieces_end {before} {q} h b k d =
        let n = ap (λ (s : Bytes). length s) l in
        let i : ℕ = y.param - 1 in
        let holds : Holds (text_of y.before) q.text = subst (λ (s : Bytes). Holds s q.text) b k in
        let none : rest_of y ≡ [] = drop_of_length-le (text_of y.line) (omega arith) in
        record {
          step = λ ls f w has. by_kind m text x ls f w e
              ∙ ap (λ (s : Bytes). next_pass m y.param s (list_of text y) (text_of y.before) (body_at m text x.after) ls f w) none
              ∙ rw (has.params, has.delimiters, set_texts ps i q holds, same_delimiters ps i q d) refl;
          placed = record { after = p.after; kind = rw e at p.kind };
          within = tt;
        }

-- ---- end_pass

has : (m : Marks) (text : Bytes) (c : Call) → Has (frame_of m text c) c.params
has m text c = record { params = refl; delimiters = refl }

module _ {m : Marks} {text : Bytes} {c : Call} (p : Placed text c) where
  pub ends_outside : ¬ (1 ≤ c.depth) → EndsPass m text c (Ok tt) c
  unfolding loops_of end_pass pass_step
  ends_outside h =
      let z : c.depth ≡ 0 = omega arith in
      record {
        step = λ w. ap (λ (n : ℕ). end_pass m (loops_of m text c.iterations n) (frame_of m text c) w) z;
        placed = p;
      }

  module _ {i : ℕ} {r : Result (Option ℕ) RunFault} {x : Iteration} {ps : List Param} (inside : (1 ≤ c.depth) × (i ≡ c.depth - 1)) (four : length c.iterations ≡ 4)
      (g : GoesOn m text (get_or c.iterations i no_iteration) c.params r x ps) where
    stepped : (w : Shared) → end_pass m (frame_of m text c).loops (frame_of m text c) w ≡ again_step m text r x ps (loops_of m text c.iterations i) (frame_of m text c) w
    stepped w =
        let a = inside.0 in
        ap (λ (ls : List Loop). end_pass m ls (frame_of m text c) w)
        (loops_top m text c.iterations c.depth (omega arith) ∙ ap (λ (j : ℕ). loop_of m text (get_or c.iterations j no_iteration) ∷ loops_of m text c.iterations j) (sym inside.1))
        ∙ g.step (loops_of m text c.iterations i) (frame_of m text c) w (has m text c)

    loops : loops_of m text (set c.iterations i x) c.depth ≡ loop_of m text x ∷ loops_of m text c.iterations i
    loops =
        let a = inside.0 in
        let b = inside.1 in
        let d = p.depth in
        let z : c.depth ≡ i + 1 = omega arith in
        ap (λ (n : ℕ). loops_of m text (set c.iterations i x) n) z ∙ loops_entered text c.iterations i x (omega arith) m

    within : (j : ℕ) → j < c.depth → PlacedLoop text (get_or (set c.iterations i x) j no_iteration)
    within j u =
        let a = inside.0 in
        let b = inside.1 in
        let d = p.depth in
        placed_entered text c.iterations i x (omega arith) (λ j v. p.iterations j (omega arith)) g.placed j (omega arith)

    pub pass_failed : {fault : RunFault} {s : Result Unit RunFault} → r ≡ Err fault → s ≡ Err fault
        → EndsPass m text c s (record c { params = ps; iterations = set c.iterations i x })
    unfolding again_step pass_step
    pass_failed u e = rw e (record {
      step = λ w. stepped w ∙ ap (λ (z : Result (Option ℕ) RunFault). again_step m text z x ps (loops_of m text c.iterations i) (frame_of m text c) w) u;
      placed = record { number = p.number; next = p.next; depth = p.depth; iterations = within };
    })

    pub another_pass : {after : ℕ} → r ≡ Ok (Some after) → EndsPass m text c (Ok tt) (record c { next = after; params = ps; iterations = set c.iterations i x })
    unfolding again_step pass_step
    another_pass {after} u = record {
      step = λ w. stepped w ∙ ap (λ (z : Result (Option ℕ) RunFault). again_step m text z x ps (loops_of m text c.iterations i) (frame_of m text c) w) u ∙ rw loops refl;
      placed = record { number = p.number; next = rw u at g.within; depth = p.depth; iterations = within };
    }

    pub no_pass_more : r ≡ Ok None → EndsPass m text c (Ok tt) (record c { params = ps; iterations = set c.iterations i x; depth = i })
    unfolding again_step pass_step
    no_pass_more u =
        let a = inside.0 in
        let b = inside.1 in
        let d = p.depth in
        record {
          step = λ w. stepped w ∙ ap (λ (z : Result (Option ℕ) RunFault). again_step m text z x ps (loops_of m text c.iterations i) (frame_of m text c) w) u
              ∙ rw (loops_past m text c.iterations i x i (omega arith)) refl;
          placed = record { number = p.number; next = p.next; depth = omega arith; iterations = λ j v. within j (omega arith) };
        }

-- ---- start_pass

module _ {m : Marks} {text : Bytes} {c : Call} {d : ℕ} {line : Bytes} {list : Span} {l : Text} {r : Result Unit RunFault} {x : Pieces} {ps : List Param}
    (p : Placed text c) (k : Holds line l)
    (t : TakesPass m text (record { param = d; list = list; from = 0; line = l; before = (get_or c.params (d - 1) no_param).text }) c.params r x ps) where
  begun : (w : Shared)
      → take_pass d (pass_of m (part text list.start list.end) line) (part text list.start list.end) (param (frame_of m text c) d) (frame_of m text c).next (frame_of m text c).loops (frame_of m text c) w
      ≡ taken_step text r x ps (frame_of m text c).next (frame_of m text c).loops (frame_of m text c) w
  unfolding param
  begun w =
      let f : Frame = frame_of m text c in
      let old : param f d ≡ text_of (get_or c.params (d - 1) no_param).text = get_or-map (λ p. text_of p.text) c.params (d - 1) no_param in
      ap₂ (λ (s before : Bytes). take_pass d (pass_of m (part text list.start list.end) s) (part text list.start list.end) before f.next f.loops f w) (sym k.is) old
      ∙ t.step f.next f.loops f w (has m text c)

  pub start_fails : {fault : RunFault} {s : Result Unit RunFault} → r ≡ Err fault → s ≡ Err fault → StartsPass m text c d line list.start list.end s (record c { params = ps })
  unfolding taken_step pass_step
  start_fails u e = rw e (record {
    step = λ w. begun w ∙ ap (λ (z : Result Unit RunFault). taken_step text z x ps (frame_of m text c).next (frame_of m text c).loops (frame_of m text c) w) u;
    placed = record { number = p.number; next = p.next; depth = p.depth; iterations = p.iterations };
  })

  pub starts : {u : Unit} {c' : Call} → r ≡ Ok u → Enters (record c { params = ps }) (Kinds.Pieces x) c' → StartsPass m text c d line list.start list.end (Ok tt) c'
  unfolding taken_step pass_step resume_at
  starts {c' = c'} u e = record {
    step = λ w. begun w ∙ ap (λ (z : Result Unit RunFault). taken_step text z x ps (frame_of m text c).next (frame_of m text c).loops (frame_of m text c) w) u
        ∙ ap (λ (f : Frame). continues f w) (sym (e.frame m text));
    placed = e.placed text (record { number = p.number; next = p.next; depth = p.depth; iterations = p.iterations }) t.placed;
  }
