-- Rows that are added part by part.
use mathlib.Core.Path.{◌≡◌, sym, ap, ◌∙◌}
use mathlib.Core.List.{[], ◌∷◌, ◌++◌, append_assoc}
use Prim.Native.Nat.{ℕ}
use Rattle.model.specs.declared.Checked.{Checked}
use Rattle.model.specs.declared.Fitted.{Fitted}
use Rattle.model.specs.Text.{Bytes}
use Rattle.model.specs.Store.{decimal}
use Rattle.model.specs.Printed.{spaced, end_row, check_row, piece_row, fit_row}
use Rattle.rendering.specs.Prints.{RoomFor, Prints}
use Rattle.rendering.proofs.Prints.{prints_as, prints_more, prints_4, room_as, room_first, room_next, room_1, room_2, room_3, room_4}

-- ---- numbers

module _ {o : Bytes} {w : ℕ} (n : ℕ) where
  pub blank_room : RoomFor o w (spaced n) → RoomFor o w (32 ∷ [])
  unfolding spaced
  blank_room h = room_first (32 ∷ []) (decimal n) h

  pub digits_room : {r : ℕ} {o₁ : Bytes} → RoomFor o w (spaced n) → Prints o w (32 ∷ []) r o₁ → RoomFor o₁ r (decimal n)
  unfolding spaced
  digits_room h p = room_next (decimal n) h p

  pub spaced_prints : {r k : ℕ} {o₁ o₂ : Bytes} → Prints o w (32 ∷ []) r o₁ → Prints o₁ r (decimal n) k o₂ → Prints o w (spaced n) k o₂
  unfolding spaced
  spaced_prints p q = prints_more p q

-- two numbers
module _ {o : Bytes} {w : ℕ} (a b : ℕ) where
  pub first_room : RoomFor o w (spaced a ++ spaced b) → RoomFor o w (spaced a)
  first_room h = room_first (spaced a) (spaced b) h

  pub second_room : {r : ℕ} {o₁ : Bytes} → RoomFor o w (spaced a ++ spaced b) → Prints o w (spaced a) r o₁ → RoomFor o₁ r (spaced b)
  second_room h p = room_next (spaced b) h p

-- ---- the row that ends what expand prints

abbrev word : Bytes
word = 69 ∷ 78 ∷ 68 ∷ []

module _ (k n e : ℕ) where
  -- its parts, number and line as one
  end_is : end_row k n e ≡ word ++ (spaced k ++ spaced n) ++ spaced e ++ (10 ∷ [])
  unfolding end_row
  end_is = ap (λ (x : Bytes). x ++ spaced e ++ (10 ∷ [])) (append_assoc word (spaced k) (spaced n))

  module _ {o : Bytes} {w : ℕ} where
    pub end-word : RoomFor o w (end_row k n e) → RoomFor o w word
    end-word h = room_1 word (spaced k ++ spaced n) (spaced e) (10 ∷ []) (room_as end_is h)

    module _ {a : ℕ} {o₁ : Bytes} where
      pub end_second : RoomFor o w (end_row k n e) → Prints o w word a o₁ → RoomFor o₁ a (spaced k ++ spaced n)
      end_second h p = room_2 word (spaced k ++ spaced n) (spaced e) (10 ∷ []) (room_as end_is h) p

      module _ {b : ℕ} {o₂ : Bytes} where
        pub end_events : RoomFor o w (end_row k n e) → Prints o w word a o₁ → Prints o₁ a (spaced k ++ spaced n) b o₂ → RoomFor o₂ b (spaced e)
        end_events h p q = room_3 word (spaced k ++ spaced n) (spaced e) (10 ∷ []) (room_as end_is h) p q

        module _ {c : ℕ} {o₃ : Bytes} where
          pub end_newline : RoomFor o w (end_row k n e) → Prints o w word a o₁ → Prints o₁ a (spaced k ++ spaced n) b o₂ → Prints o₂ b (spaced e) c o₃ → RoomFor o₃ c (10 ∷ [])
          end_newline h p q r = room_4 word (spaced k ++ spaced n) (spaced e) (10 ∷ []) (room_as end_is h) p q r

          pub end_prints : {t : ℕ} {o₄ : Bytes} → Prints o w word a o₁ → Prints o₁ a (spaced k ++ spaced n) b o₂ → Prints o₂ b (spaced e) c o₃ → Prints o₃ c (10 ∷ []) t o₄
              → Prints o w (end_row k n e) t o₄
          end_prints p q r s = prints_as (sym end_is) (prints_4 p q r s)

-- ---- a row of check_text

module _ (name : Bytes) (x : Checked) where
  -- the two numbers and the end as one part
  check_end : Bytes
  check_end = spaced x.number ++ spaced x.line ++ (10 ∷ [])

  check_is : check_row name x ≡ name ++ check_end
  unfolding check_row check_end
  check_is = ap (λ (y : Bytes). y ++ (10 ∷ [])) (append_assoc name (spaced x.number) (spaced x.line)) ∙ append_assoc name (spaced x.number ++ spaced x.line) (10 ∷ [])

  module _ {o : Bytes} {w : ℕ} where
    pub check_name : RoomFor o w (check_row name x) → RoomFor o w name
    check_name h = room_first name check_end (room_as check_is h)

    module _ {a : ℕ} {o₁ : Bytes} where
      pub check_counts : RoomFor o w (check_row name x) → Prints o w name a o₁ → RoomFor o₁ a (spaced x.number ++ spaced x.line ++ (10 ∷ []))
      unfolding check_end
      check_counts h p = room_next check_end (room_as check_is h) p

      pub check-prints : {r : ℕ} {o₂ : Bytes} → Prints o w name a o₁ → Prints o₁ a (spaced x.number ++ spaced x.line ++ (10 ∷ [])) r o₂ → Prints o w (check_row name x) r o₂
      unfolding check_end
      check-prints p q = prints_as (sym check_is) (prints_more p q)

-- ---- a row of fit_line

module _ {o : Bytes} {w : ℕ} (n k : ℕ) where
  -- the last two numbers, and the row's end
  pub counts_room : RoomFor o w (spaced n ++ spaced k ++ (10 ∷ [])) → RoomFor o w (spaced n ++ spaced k)
  counts_room h = room_first (spaced n ++ spaced k) (10 ∷ []) h

  pub end_room : {a : ℕ} {o₁ : Bytes} → RoomFor o w (spaced n ++ spaced k ++ (10 ∷ [])) → Prints o w (spaced n ++ spaced k) a o₁ → RoomFor o₁ a (10 ∷ [])
  end_room h p = room_next (10 ∷ []) h p

module _ (f : Fitted) where
  -- the last two numbers and the end as one part
  last_part : Bytes
  last_part = spaced f.places ++ spaced f.bytes ++ (10 ∷ [])

  -- the parts before them
  front_part : Bytes
  front_part = decimal f.number ++ spaced f.line ++ piece_row f.start f.length

  fit_is : fit_row f ≡ decimal f.number ++ spaced f.line ++ piece_row f.start f.length ++ last_part
  unfolding fit_row last_part front_part
  fit_is =
      ap (λ (x : Bytes). x ++ (10 ∷ [])) (append_assoc front_part (spaced f.places) (spaced f.bytes))
      ∙ append_assoc front_part (spaced f.places ++ spaced f.bytes) (10 ∷ [])

  module _ {o : Bytes} {w : ℕ} where
    pub fit_number : RoomFor o w (fit_row f) → RoomFor o w (decimal f.number)
    fit_number h = room_1 (decimal f.number) (spaced f.line) (piece_row f.start f.length) last_part (room_as fit_is h)

    module _ {a : ℕ} {o₁ : Bytes} where
      pub fit_line : RoomFor o w (fit_row f) → Prints o w (decimal f.number) a o₁ → RoomFor o₁ a (spaced f.line)
      fit_line h p = room_2 (decimal f.number) (spaced f.line) (piece_row f.start f.length) last_part (room_as fit_is h) p

      module _ {b : ℕ} {o₂ : Bytes} where
        pub fit_pieces : RoomFor o w (fit_row f) → Prints o w (decimal f.number) a o₁ → Prints o₁ a (spaced f.line) b o₂ → RoomFor o₂ b (piece_row f.start f.length)
        fit_pieces h p q = room_3 (decimal f.number) (spaced f.line) (piece_row f.start f.length) last_part (room_as fit_is h) p q

        module _ {c : ℕ} {o₃ : Bytes} where
          pub fit_last : RoomFor o w (fit_row f) → Prints o w (decimal f.number) a o₁ → Prints o₁ a (spaced f.line) b o₂
              → Prints o₂ b (piece_row f.start f.length) c o₃ → RoomFor o₃ c (spaced f.places ++ spaced f.bytes ++ (10 ∷ []))
          unfolding last_part
          fit_last h p q r = room_4 (decimal f.number) (spaced f.line) (piece_row f.start f.length) last_part (room_as fit_is h) p q r

          pub fit-prints : {r : ℕ} {o₄ : Bytes} → Prints o w (decimal f.number) a o₁ → Prints o₁ a (spaced f.line) b o₂
              → Prints o₂ b (piece_row f.start f.length) c o₃ → Prints o₃ c (spaced f.places ++ spaced f.bytes ++ (10 ∷ [])) r o₄ → Prints o w (fit_row f) r o₄
          unfolding last_part
          fit-prints p q r s = prints_as (sym fit_is) (prints_4 p q r s)
