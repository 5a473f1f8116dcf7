-- The parameters and delimiters of a call are read and changed, and an iteration begins.
use mathlib.Core.Path.{◌≡◌, refl, sym, ap, ◌∙◌}
use mathlib.Core.List.{List}
use Prim.Native.Nat.{ℕ, ◌+◌, ◌-◌, ◌<◌, min}
use native.Mathlib.Omega.{arith}
use lib.ListN.{length, get_or, set, get_or-map}
use lib.Seq.{map-set_same}
use Rattle.std.specs.Prelude.{Option}
use Rattle.std.proofs.lemmas.List.{map-set, length-take}
use Rattle.model.specs.Text.{Bytes}
use Rattle.model.specs.Machine.{param, with_param, resume_at}
use Rattle.pass.specs.Pass.{delimiter_bytes}
use Rattle.call.specs.declared.Param.{Param}
use Rattle.call.specs.declared.Kind.{Kind}
use Rattle.call.specs.declared.Iteration.{Iteration}
use Rattle.call.specs.declared.Call.{Call}
use Rattle.call.specs.Call.{Holds, text_of, no_param, texts_of, delimiters_of}
use Rattle.call.specs.Params.{Reads, Sets, with_delimiter, Delimits, DelimitsParam, Enters}
use Rattle.call.proofs.Loops.{loops_entered, placed_entered}

-- ---- the parameters

pub set_texts : (ps : List Param) (i : ℕ) (q : Param) {s : Bytes} → Holds s q.text → texts_of (set ps i q) ≡ set (texts_of ps) i s
set_texts ps i q h = map-set (λ p. text_of p.text) ps i q ∙ ap (λ (x : Bytes). set (texts_of ps) i x) h.is

pub same_delimiters : (ps : List Param) (i : ℕ) (q : Param) → q.delimiter ≡ (get_or ps i no_param).delimiter → delimiters_of (set ps i q) ≡ delimiters_of ps
same_delimiters ps i q e = map-set_same (λ p. delimiter_bytes p.delimiter) ps i q no_param (ap delimiter_bytes e)

pub same_texts : (ps : List Param) (i : ℕ) (q : Param) → q.text ≡ (get_or ps i no_param).text → texts_of (set ps i q) ≡ texts_of ps
same_texts ps i q e = map-set_same (λ p. text_of p.text) ps i q no_param (ap text_of e)

pub set_delimiters : (ps : List Param) (i : ℕ) (q : Param) {b : Option ℕ} → q.delimiter ≡ b → delimiters_of (set ps i q) ≡ set (delimiters_of ps) i (delimiter_bytes b)
set_delimiters ps i q e = map-set (λ p. delimiter_bytes p.delimiter) ps i q ∙ ap (λ (b : Option ℕ). set (delimiters_of ps) i (delimiter_bytes b)) e

module _ {c : Call} {d : ℕ} where
  pub reads : {s : Bytes} → s ≡ text_of (get_or c.params (d - 1) no_param).text → Reads c d s
  unfolding param
  reads {s} e =
      let p : Param = get_or c.params (d - 1) no_param in
      let l = length-take (min p.text.len 200) p.text.bytes in
      record {
        is = λ m text. get_or-map (λ p. text_of p.text) c.params (d - 1) no_param ∙ sym e;
        short = omega (arith, ap (λ (x : Bytes). length x) e);
      }

  pub sets : {s : Bytes} {q : Param} → Holds s q.text → q.delimiter ≡ (get_or c.params (d - 1) no_param).delimiter → Sets c d s (record c { params = set c.params (d - 1) q })
  unfolding with_param
  sets {s} {q} h e = record {
    frame = λ m text. rw (set_texts c.params (d - 1) q h, same_delimiters c.params (d - 1) q e) refl;
    placed = λ text p. record { number = p.number; next = p.next; depth = p.depth; iterations = p.iterations };
  }

  pub delimits : {b : Option ℕ} {q : Param} → DelimitsParam (get_or c.params (d - 1) no_param) b q → Delimits c d b (record c { params = set c.params (d - 1) q })
  delimits h = h.call c d refl

pub delimits_param : {p : Param} {b : Option ℕ} → DelimitsParam p b (record p { delimiter = b })
unfolding with_delimiter
delimits_param {p} {b} =
    let q : Param = record p { delimiter = b } in
    record {
      call = λ c d e. record {
        frame = λ m text. rw (same_texts c.params (d - 1) q (ap (λ (p : Param). p.text) (sym e)), set_delimiters c.params (d - 1) q refl) refl;
        placed = λ text p. record { number = p.number; next = p.next; depth = p.depth; iterations = p.iterations };
      };
    }

-- ---- a new iteration

pub enters : {c : Call} {k : Kind} → length c.iterations ≡ 4 → c.depth < 4
    → Enters c k (record c { iterations = set c.iterations c.depth (record { after = c.next; kind = k }); depth = c.depth + 1 })
unfolding resume_at
enters {c} {k} l h =
    let x : Iteration = record { after = c.next; kind = k } in
    record {
      frame = λ m text. rw (loops_entered text c.iterations c.depth x (omega arith) m) refl;
      placed = λ text p q. record {
        number = p.number;
        next = p.next;
        depth = omega arith;
        iterations = placed_entered text c.iterations c.depth x (omega arith) p.iterations (record { after = p.next; kind = q });
      };
    }
