-- The pieces of a pass: a character, or a row of atoms.
use mathlib.Core.Path.{◌≡◌, refl, sym, ◌∙◌, ap, ap₂, subst}
use mathlib.Core.Bool.{Bool, true, false}
use mathlib.Core.Option.{Option, none, some}
use mathlib.Core.List.{[], ◌∷◌, ◌++◌, append-nil, append_assoc}
use Prim.Native.Nat.{ℕ, suc, ◌+◌, ◌-◌, ◌≤◌, ◌<◌}
use native.Mathlib.Numerals.{add-one}
use native.Mathlib.Omega.{arith}
use lib.Dec.{eqb}
use lib.ListN.{length, get_or, drop, drop_of_length-le, length-drop}
use lib.Seq.{drop-cons}
use borrow.Author.Tests.{eqb-true}
use Rattle.std.specs.Prelude as Std
use Rattle.std.specs.Prelude.{Result, IsNone, IfSome, Ok, Err, Some, None, IsErrAnd}
use Rattle.faults.specs.declared.RunFault.{RunFault}
use Rattle.faults.specs.declared.RunFault.TheVariants.{NoAtom, BadCharacter}
use Rattle.faults.specs.Numbers.{run_number}
use Rattle.model.specs.declared.Marks.{Marks}
use Rattle.model.specs.Text.{Bytes, part, has}
use Rattle.model.specs.Reading.{atom}
use Rattle.model.specs.Utf8 as Utf8
use Rattle.model.specs.Utf8.{character}
use Rattle.model.specs.Machine.{Piece, longer, piece_of, one_pass, pass_of, no_pass}
use Rattle.model.proofs.Text.{part_join}
use Rattle.model.proofs.Depth.{piece_enough}
use Rattle.atom.specs.declared.Scanned.{Scanned}
use Rattle.atom.specs.Atoms.{EndsAtom, AtomAt}
use Rattle.scan.specs.Lines.{Has}
use Rattle.character.specs.declared.Character.{Character}
use Rattle.character.specs.declared.Malformed.{Malformed}
use Rattle.character.specs.Decoding.{Found, ReadsCharacter}
use Rattle.character.proofs.Decoding.{one_bounds, one_is, malformed_bounds, malformed_is, nothing_bounds}
use Rattle.pass.specs.declared.Taken.{Taken}
use Rattle.pass.specs.Pass.{up_to, delimiter_bytes, piece_at, Takes, TakesCharacter}

-- ---- bytes in front of a piece

longer_nil : (o : Option Piece) → longer [] o ≡ o
unfolding longer
longer_nil none = refl
longer_nil (some p) = refl

longer-longer : (a b : Bytes) (o : Option Piece) → longer a (longer b o) ≡ longer (a ++ b) o
unfolding longer
longer-longer a b none = refl
longer-longer a b (some p) = ap (λ (x : Bytes). some (record { piece = x; delimiter = p.delimiter; rest = p.rest })) (sym (append_assoc a b p.piece))

-- ---- the piece of a line, by its first byte

module _ (m : Marks) (ds : Bytes) where
  abbrev piece : Bytes → Option Piece
  piece s = piece_of (length s + 1) m ds s

  piece_end : piece [] ≡ some (record { piece = []; delimiter = []; rest = [] })
  unfolding piece_of
  piece_end = refl

  piece_delimiter : (x : ℕ) (s : Bytes) → has x ds ≡ true → piece (x ∷ s) ≡ some (record { piece = []; delimiter = x ∷ []; rest = s })
  unfolding piece_of
  piece_delimiter x s e = rw (add-one, e, piece_of) refl

  piece_none : (x : ℕ) (s : Bytes) → has x ds ≡ false → atom m (x ∷ s) ≡ none → piece (x ∷ s) ≡ none
  unfolding piece_of
  piece_none x s e f = rw (add-one, e, f, piece_of) refl

  piece_atom : (x : ℕ) (s a t : Bytes) → has x ds ≡ false → atom m (x ∷ s) ≡ some (a, t) → length t ≤ length s → piece (x ∷ s) ≡ longer a (piece t)
  unfolding piece_of
  piece_atom x s a t e f h =
      let z : suc (length s) ≡ length t + 1 + (length s - length t) = omega arith in
      let first : piece (x ∷ s) ≡ longer a (piece_of (suc (length s)) m ds t) = rw (add-one, e, f, piece_of) refl in
      first ∙ ap (λ (n : ℕ). longer a (piece_of n m ds t)) z ∙ ap (longer a) (piece_enough m ds t (length s - length t))

-- with a list, a pass takes a piece
pass_piece : (m : Marks) (list s : Bytes) → 0 < length list → pass_of m list s ≡ piece m list s
unfolding pass_of
pass_piece m [] s h = absurd (omega arith)
pass_piece m (d ∷ ds) s h = refl

-- document 01's number where such a pass finds nothing
with_list : (list : Bytes) → 0 < length list → 17 ≡ no_pass list
with_list [] h = absurd (omega arith)
with_list (d ∷ ds) h = refl

-- ---- take_atoms

-- the loop's place: the line up to i is a row of atoms, and the rest gives the rest of the piece
pub record Taking (m : Marks) (line : Bytes) (at : ℕ) (list : Bytes) (i : ℕ) : Type 0 where
  pub low : at ≤ i
  pub high : i ≤ length line
  pub is : pass_of m list (drop at line) ≡ longer (part line at i) (piece m list (drop i line))

-- where an atom ends, and that none does
atom_ends : {m : Marks} {line : Bytes} {i n : ℕ} {r : Scanned} → AtomAt m line i r → r.end ≡ Some n → EndsAtom m line i n
atom_ends {m} {line} {i} a e = subst (λ (x : Std.Option ℕ). IfSome x (EndsAtom m line i)) e a.found

no_atom : {m : Marks} {line : Bytes} {i : ℕ} {r : Scanned} → AtomAt m line i r → r.end ≡ None → atom m (drop i line) ≡ none
no_atom a e = a.nowhere (subst (λ (x : Std.Option ℕ). IsNone x) (sym e) refl)

module _ {m : Marks} {line : Bytes} {at : ℕ} {list : Bytes} where
  pub taking_begins : at ≤ length line → 0 < length list → Taking m line at list at
  taking_begins h k =
      let z : at - at ≡ 0 = omega arith in
      record { low = omega arith; high = h; is = pass_piece m list (drop at line) k ∙ rw z (sym (longer_nil (piece m list (drop at line)))) }

  pub taking_goes_on : {i n : ℕ} {r : Scanned} {q : Bool} → Taking m line at list i → i < length line → Has list (get_or line i 0) q → q ≡ false → AtomAt m line i r → r.end ≡ Some n
      → Taking m line at list n
  taking_goes_on {i} {n} {r} t h b e a k =
      let x = atom_ends a k in
      let far = x.ahead in
      let high = x.within in
      let d = length-drop (suc i) line in
      let f = length-drop n line in
      let found : atom m (get_or line i 0 ∷ drop (suc i) line) ≡ some (part line i n, drop n line) = ap (atom m) (sym (drop-cons line i 0 h)) ∙ x.is in
      record {
        low = omega arith;
        high = high;
        is = t.is ∙ ap (longer (part line at i)) (ap (piece m list) (drop-cons line i 0 h)
            ∙ piece_atom m list (get_or line i 0) (drop (suc i) line) (part line i n) (drop n line) (sym b.is ∙ e) found (omega arith))
            ∙ longer-longer (part line at i) (part line i n) (piece m list (drop n line))
            ∙ ap (λ (p : Bytes). longer p (piece m list (drop n line))) (part_join line at i n t.low (omega arith));
      }

  pub taking_delimiter : {i v : ℕ} {q : Bool} → Taking m line at list i → i < length line → Has list (get_or line i 0) q → q ≡ true → v ≡ get_or line i 0
      → Takes m line at list (Ok (record { end = i; delimiter = Some v; rest = i + 1 }))
  unfolding piece_at longer delimiter_bytes
  taking_delimiter {i} {v} t h b e g = record {
    is = t.is ∙ ap (longer (part line at i)) (ap (piece m list) (drop-cons line i 0 h) ∙ piece_delimiter m list (get_or line i 0) (drop (suc i) line) (sym b.is ∙ e))
        ∙ ap₂ (λ (p d : Bytes). some (record { piece = p; delimiter = d; rest = drop (suc i) line })) (append-nil (part line at i)) (ap (λ (x : ℕ). x ∷ []) (sym g))
        ∙ rw add-one refl;
    bounds = record { low = t.low; high = omega arith; within = omega arith; ahead = λ _. let l = t.low in omega arith };
    fault = tt;
  }

  pub taking_fails : {i : ℕ} {r : Scanned} {q : Bool} → Taking m line at list i → i < length line → 0 < length list → Has list (get_or line i 0) q → q ≡ false → AtomAt m line i r
      → r.end ≡ None → Takes m line at list (Err NoAtom)
  unfolding piece_at longer
  taking_fails {i} t h l b e a k =
      let found : atom m (get_or line i 0 ∷ drop (suc i) line) ≡ none = ap (atom m) (sym (drop-cons line i 0 h)) ∙ no_atom a k in
      record {
        is = t.is ∙ ap (longer (part line at i)) (ap (piece m list) (drop-cons line i 0 h) ∙ piece_none m list (get_or line i 0) (drop (suc i) line) (sym b.is ∙ e) found);
        bounds = tt;
        fault = with_list list l;
      }

  pub taking_ends : {i : ℕ} → Taking m line at list i → length line ≤ i → Takes m line at list (Ok (up_to i))
  unfolding piece_at longer delimiter_bytes
  taking_ends {i} t h =
      let n : drop i line ≡ [] = drop_of_length-le line {i = i} h in
      record {
        is = t.is ∙ ap (λ (s : Bytes). longer (part line at i) (piece m list s)) n ∙ ap (longer (part line at i)) (piece_end m list)
            ∙ ap₂ (λ (p s : Bytes). some (record { piece = p; delimiter = []; rest = s })) (append-nil (part line at i)) (sym n);
        bounds = record { low = t.low; high = omega arith; within = t.high; ahead = λ l. omega arith };
        fault = tt;
      }

-- ---- with no list

-- a pass takes the character at the front, or finds none
pass_none : (m : Marks) (x : ℕ) (s : Bytes) → character (x ∷ s) ≡ none → pass_of m [] (x ∷ s) ≡ none
unfolding pass_of one_pass
pass_none m x s e = ap one_pass e

pass_one : (m : Marks) (x : ℕ) (s : Bytes) (c : Utf8.Character) → character (x ∷ s) ≡ some c → pass_of m [] (x ∷ s) ≡ some (record { piece = c.bytes; delimiter = []; rest = c.rest })
unfolding pass_of one_pass
pass_one m x s c e = ap one_pass e

module _ {line : Bytes} {at : ℕ} {d : Found} (k : ReadsCharacter line at d) where
  -- a character
  pub takes_one : {c : Character} → d ≡ Ok (Some c) → TakesCharacter line at (Ok (up_to (at + c.len)))
  unfolding piece_at delimiter_bytes
  takes_one {c} e =
      let b = one_bounds k e in
      let low = b.1.0 in
      let high = b.1.1.1 in
      let n : drop at line ≡ get_or line at 0 ∷ drop (suc at) line = drop-cons line at 0 (omega arith) in
      let x : Utf8.Character = record { code = c.code; bytes = part line at (at + c.len); rest = drop (at + c.len) line } in
      record {
        takes = λ m. record {
          is = ap (pass_of m []) n ∙ pass_one m (get_or line at 0) (drop (suc at) line) x (ap character (sym n) ∙ one_is k e);
          bounds = record { low = omega arith; high = omega arith; within = high; ahead = λ _. omega arith };
          fault = tt;
        };
      }

  -- malformed bytes
  pub takes_malformed : {z : Malformed} {r : Result Taken RunFault} → d ≡ Err z → IsErrAnd r (λ f. f ≡ BadCharacter) → TakesCharacter line at r
  unfolding piece_at
  takes_malformed {r = Ok t} e g = absurd g
  takes_malformed {r = Err f} e g =
      let n : drop at line ≡ get_or line at 0 ∷ drop (suc at) line = drop-cons line at 0 (malformed_bounds k e) in
      record {
        takes = λ m. record {
          is = ap (pass_of m []) n ∙ pass_none m (get_or line at 0) (drop (suc at) line) (ap character (sym n) ∙ malformed_is k e);
          bounds = tt;
          fault = ap run_number g;
        };
      }

  -- nothing at the line's end
  pub takes_nothing : at ≤ length line → d ≡ Ok None → TakesCharacter line at (Ok (up_to at))
  unfolding pass_of piece_at delimiter_bytes
  takes_nothing h e =
      let l = nothing_bounds k e in
      let n : drop at line ≡ [] = drop_of_length-le line {i = at} l in
      let z : at - at ≡ 0 = omega arith in
      record {
        takes = λ m. record {
          is = rw (n, pass_of, z) refl;
          bounds = record { low = omega arith; high = omega arith; within = h; ahead = λ q. absurd (omega arith) };
          fault = tt;
        };
      }

-- an empty list is no list
no_list : (list : Bytes) → length list ≡ 0 → list ≡ []
no_list [] h = refl
no_list (d ∷ ds) h = absurd (omega arith)

-- what a pass takes with an empty list
pub takes_character : {m : Marks} {line : Bytes} {at : ℕ} {list : Bytes} {r : Result Taken RunFault} {q : Bool} → q ≡ eqb (length list) 0 → q ≡ true → TakesCharacter line at r
    → Takes m line at list r
takes_character {m} {line} {at} {list} {r} e f t = subst (λ (l : Bytes). Takes m line at l r) (sym (no_list list (eqb-true (length list) 0 (sym e ∙ f)))) (t.takes m)
