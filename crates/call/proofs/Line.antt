-- A line that is built.
use mathlib.Core.Path.{◌≡◌, sym, ap, ap₂, ◌∙◌}
use mathlib.Core.List.{◌++◌}
use Rattle.std.proofs.lemmas.List.{take_min, length-take}
use Prim.Native.Nat.{ℕ, min, ◌+◌, ◌-◌, ◌≤◌, ◌<◌}
use native.Mathlib.Omega.{arith}
use borrow.Author.Tests.{le-leb, lt-leb}
use lib.ListN.{length, take}
use lib.Seq.{take-paste, take-length}
use Rattle.std.specs.Prelude.{Ok, Err}
use Rattle.faults.specs.declared.RunFault.TheVariants.{LongLine}
use Rattle.model.specs.Text.{Bytes}
use Rattle.model.specs.Machine.{built, failed, add}
use Rattle.model.proofs.Choices.{when_true, when_false}
use Rattle.buffer.specs.Pasted.{Pasted}
use Rattle.buffer.proofs.Pasted.{front_pasted}
use Rattle.call.specs.declared.Text.{Text}
use Rattle.call.specs.Call.{text_of, Holds}
use Rattle.call.specs.Line.{line_step, Appends}

-- no text has more than 200 bytes
short : (x : Text) → length (text_of x) ≤ 200
short x = omega (arith, length-take (min x.len 200) x.bytes)

-- bytes that are copied to the front are the text of so many
pub holds_copied : {o s b : Bytes} → Pasted o 0 s (length s) b → length s ≤ length o → length s ≤ 200 → Holds s (record { len = length s; bytes = b })
holds_copied {o} {s} {b} g h k = let n : min (length s) 200 ≡ length s = omega arith in record { is = ap (λ (i : ℕ). take i b) n ∙ front_pasted g h }

-- the text with a part behind its bytes r
pub front_put : (x : Text) (s r b : Bytes) → r ≡ text_of x → length s ≤ 200 - length r → Pasted x.bytes (length r) s (length s) b
    → take (min (length r + length s) 200) b ≡ r ++ s
front_put x s r b e k g =
    let l = length-take (min x.len 200) x.bytes in
    let f = ap (λ (y : Bytes). length y) e in
    let a : take (length r) x.bytes ≡ r = ap (λ (n : ℕ). take n x.bytes) (f ∙ l) ∙ take_min (min x.len 200) x.bytes ∙ sym e in
    let n : min (length r + length s) 200 ≡ length r + length s = omega (arith, short x) in
    ap₂ (λ (i : ℕ) (y : Bytes). take i y) n g.is
    ∙ take-paste x.bytes (length r) s (length s) (omega arith) (omega arith)
    ∙ ap₂ (λ (y z : Bytes). y ++ z) a (take-length s)

-- a part that has room comes at the end
pub appends : (x : Text) (s r b : Bytes) → r ≡ text_of x → length s ≤ 200 - length r → Pasted x.bytes (length r) s (length s) b
    → Appends x s (Ok tt) (record { len = length r + length s; bytes = b })
unfolding add line_step
appends x s r b e k g =
    let h = short x in
    let f = ap (λ (y : Bytes). length y) e in
    record {
      is = λ w. when_true (built (text_of x ++ s) w) (failed 12 w) (le-leb (length (text_of x) + length s) 200 (omega arith))
          ∙ ap (λ (y : Bytes). built y w) (ap (λ (y : Bytes). y ++ s) (sym e) ∙ sym (front_put x s r b e k g));
    }

-- and one that has none is refused
pub too_long : {x : Text} {s r : Bytes} → r ≡ text_of x → 200 - length r < length s → Appends x s (Err LongLine) x
unfolding add line_step
too_long {x} {s} {r} e k =
    let h = short x in
    let f = ap (λ (b : Bytes). length b) e in
    record { is = λ w. when_false (built (text_of x ++ s) w) (failed 12 w) (lt-leb (length (text_of x) + length s) 200 (omega arith)) }
