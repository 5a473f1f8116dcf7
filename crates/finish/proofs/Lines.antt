-- F1 at the line's start: a layout is written.
use mathlib.Core.Path.{◌≡◌, refl, sym, ap, subst, ◌∙◌}
use Prim.Native.Nat.{ℕ}
use Rattle.std.specs.Prelude.{Option, Some, None, Result, Ok, Err}
use mathlib.Core.List.{List, []}
use Rattle.faults.specs.declared.RunFault.{RunFault}
use Rattle.model.specs.declared.Marks.{Marks}
use Rattle.model.specs.declared.Channel.{Channel}
use Rattle.model.specs.Text.{Bytes, part}
use Rattle.model.specs.Machine.{Frame, Step, resume_at, write_to, write_layout, Outputs}
use Rattle.model.specs.Load.{body_at}
use Rattle.scan.specs.declared.Line.{Line}
use Rattle.scan.specs.Lines.{CodeLine, CodeAt}
use Rattle.scan.proofs.Places.{code_line, code_over}
use Rattle.state.specs.declared.State.{State}
use Rattle.state.specs.State.{shared_of, Sound}
use Rattle.call.specs.declared.Call.{Call}
use Rattle.call.specs.Call.{frame_of, Placed}
use Rattle.call.specs.Params.{Moves}
use Rattle.answer.specs.Answers.{Answer, goes_on, next_of, rooms_of}
use Rattle.answer.specs.Kept.{Comes}
use Rattle.answer.proofs.Following.{only_itself, only_moves}
use Rattle.answer.proofs.Coming.{comes_as, came_on}
use Rattle.write.specs.Output.{Writes}
use Rattle.write.specs.Layout.{layout_of}
use Rattle.write.proofs.Fields.{fields-same}
use Rattle.write.proofs.Lines.{wrote_on}
use Rattle.finish.specs.Leaves.{WritesLayoutLine}

-- a fault ends the run, whatever the call is then
fault_in : {m : Marks} {text : Bytes} {p : Step} {s : State} {o : Outputs} {b : Bytes} {r : Answer} {s' : State} {c d : Call} {o' : Outputs} {fault : RunFault} → r ≡ Err fault → Placed text d
    → Comes m text p s o b r s' c o' → Comes m text p s o b r s' d o'
unfolding next_of
fault_in {m} {text} {b = b} {s' = s'} {c} {d} {o'} e q h = record {
  same = λ fs y. h.same fs y ∙ ap (λ (x : Answer). next_of m text fs y x c s' b o') e ∙ sym (ap (λ (x : Answer). next_of m text fs y x d s' b o') e);
  sound = h.sound;
  placed = q;
  stays = h.stays;
  extends = h.extends;
}

-- the call at another place
moved : (c : Call) (n : ℕ) → Moves c n (record c { next = n })
unfolding resume_at
moved c n = record {
  is = refl;
  frame = λ m text. refl;
  placed = λ text p h. record { number = p.number; next = h; depth = p.depth; iterations = p.iterations };
}

-- a layout is the same of the call at another place
same_layout : (m : Marks) (line : Bytes) {c : Call} {n : ℕ} {c' : Call} → Moves c n c' → layout_of m line c ≡ layout_of m line c'
unfolding resume_at
same_layout m line {c} {c' = c'} g = fields-same m (frame_of m [] c) (frame_of m [] c') (sym (ap (λ (f : Frame). f.params) (g.frame m []))) 256 0 line

-- with the layout passed over
after_layout : (m : Marks) (text : Bytes) (ch : Channel) (c : Call) (s : State) (o : Outputs) (l : Line) (c' : Call) → CodeLine m text c.next l → Moves c l.next c'
    → write_layout (rooms_of o) m ch (frame_of m text c).next (frame_of m text c) (shared_of s o)
    ≡ write_to (rooms_of o) ch (layout_of m (part text c.next l.end) c') (frame_of m text c') (shared_of s o)
unfolding write_layout resume_at
after_layout m text ch c s o l c' a g =
    ap (λ (b : List Bytes). write_layout (rooms_of o) m ch b (frame_of m text c) (shared_of s o)) a.is
    ∙ ap (λ (x : Bytes). write_to (rooms_of o) ch x (resume_at (frame_of m text c) (frame_of m text c).loops (body_at m text l.next)) (shared_of s o))
    (fields-same m (frame_of m text c) (frame_of m [] c) refl 256 0 (part text c.next l.end) ∙ same_layout m (part text c.next l.end) g)
    ∙ ap (λ (f : Frame). write_to (rooms_of o) ch (layout_of m (part text c.next l.end) c') f (shared_of s o)) (sym (g.frame m text))

module _ {m : Marks} {text : Bytes} {ch : Channel} {c : Call} {s : State} {o : Outputs} {x : Option Line} (q : Placed text c) (a : CodeAt m text c.next x) where
  pub no_layout : x ≡ None → WritesLayoutLine m text ch c s o (Ok tt) c s o
  unfolding write_layout
  no_layout z = record {
    moves = only_itself;
    comes = λ b h. came_on h q refl (ap (λ (b : List Bytes). write_layout (rooms_of o) m ch b (frame_of m text c) (shared_of s o)) (code_over a z));
  }

  -- what a layout comes to, whatever is answered, where the call is behind it
  pub writes_layout : {l : Line} {c' : Call} {r : Result Unit RunFault} {s' : State} {o' : Outputs} → x ≡ Some l → Moves c l.next c' → Writes ch (layout_of m (part text c.next l.end) c') s o r s' o'
      → (b : Bytes) → Sound text s o → Comes m text (write_layout (rooms_of o) m ch (frame_of m text c).next (frame_of m text c) (shared_of s o)) s o b (goes_on r) s' c' o'
  writes_layout {l} {c'} z g v b h = comes_as (after_layout m text ch c s o l c' (code_line a z) g) (wrote_on h (g.placed text q (code_line a z).within) v)

  module _ {l : Line} {r : Result Unit RunFault} {s' : State} {o' : Outputs} (z : x ≡ Some l) (v : Writes ch (layout_of m (part text c.next l.end) c) s o r s' o') where
    -- the same of a layout that is written before the call moves on
    wrote : {c' : Call} → Moves c l.next c' → (b : Bytes) → Sound text s o
        → Comes m text (write_layout (rooms_of o) m ch (frame_of m text c).next (frame_of m text c) (shared_of s o)) s o b (goes_on r) s' c' o'
    wrote {c'} g = writes_layout z g (subst (λ (x : Bytes). Writes ch x s o r s' o') (same_layout m (part text c.next l.end) g) v)

    pub layout_written : {u : Unit} {c' : Call} → r ≡ Ok u → Moves c l.next c' → WritesLayoutLine m text ch c s o (Ok tt) c' s' o'
    layout_written {c' = c'} e g = record {
      moves = only_moves g refl;
      comes = λ b h. subst (λ (y : Result Unit RunFault). Comes m text (write_layout (rooms_of o) m ch (frame_of m text c).next (frame_of m text c) (shared_of s o)) s o b (goes_on y) s' c' o') e (wrote g b h);
    }

    -- where there is no room the call stays
    pub layout_fails : {fault : RunFault} {r' : Result Unit RunFault} → r ≡ Err fault → r' ≡ Err fault → WritesLayoutLine m text ch c s o r' c s' o'
    layout_fails e f = subst (λ (y : Result Unit RunFault). WritesLayoutLine m text ch c s o y c s' o') (e ∙ sym f) record {
      moves = only_itself;
      comes = λ b h. fault_in (ap goes_on e) q (wrote (moved c l.next) b h);
    }
