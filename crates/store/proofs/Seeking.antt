-- The search for a name.
use mathlib.Core.Path.{◌≡◌, sym, ap, ◌∙◌}
use mathlib.Core.Bool.{Bool, true, false}
use mathlib.Core.Option.{some}
use mathlib.Core.List.{List, []}
use Prim.Native.Nat.{ℕ}
use Rattle.std.specs.Prelude.{Some, None}
use Rattle.model.specs.Text.{same}
use Rattle.model.specs.Store.{Store, find}
use Rattle.model.proofs.Choices.{when_true, when_false}
use Rattle.store.specs.Memory.{held}
use Rattle.store.specs.Seek.{entries_left, FirstEntry, place_in, FindsEntry}
use Rattle.store.specs.declared.Index.{Index}
use Rattle.store.specs.declared.Entry.{Entry}
use Rattle.store.specs.declared.Entries.{Entries}

-- the name is among the entries that are left where it is among all
pub record Seeking (m : List ℕ) (x : Index) (name : List ℕ) (s : Entries) : Type 0 where
  pub place : place_in name s.at (entries_left s) ≡ place_in name 0 (held x.count m)
  pub text : find name (entries_left s) ≡ find name (held x.count m)

module _ {m : List ℕ} {x : Index} {name : List ℕ} {s : Entries} (g : Seeking m x name s) where
  pub seek_nowhere : entries_left s ≡ [] → FindsEntry m x name None
  unfolding place_in find
  seek_nowhere e = record {
    place = record { is = ap (λ (es : Store). place_in name s.at es) (sym e) ∙ g.place };
    text = record { is = ap (λ (es : Store). find name es) (sym e) ∙ g.text; short = tt };
  }

  module _ {e : Entry} {t : Entries} (f : FirstEntry s e t) {q : Bool} (tested : q ≡ same e.name.now name) where
    pub seek_here : q ≡ true → FindsEntry m x name (Some e)
    unfolding place_in find
    seek_here p = record {
      place = record { is = ap Some f.at ∙ sym (when_true (Some s.at) _ (sym tested ∙ p)) ∙ ap (λ (es : Store). place_in name s.at es) (sym f.is) ∙ g.place };
      text = record { is = sym (when_true (some e.text.now) _ (sym tested ∙ p)) ∙ ap (λ (es : Store). find name es) (sym f.is) ∙ g.text; short = f.short };
    }

    pub seek_on : q ≡ false → Seeking m x name t
    unfolding place_in find
    seek_on p = record {
      place = ap (λ (i : ℕ). place_in name i (entries_left t)) f.next ∙ sym (when_false (Some s.at) _ (sym tested ∙ p)) ∙ ap (λ (es : Store). place_in name s.at es) (sym f.is) ∙ g.place;
      text = sym (when_false (some e.text.now) _ (sym tested ∙ p)) ∙ ap (λ (es : Store). find name es) (sym f.is) ∙ g.text;
    }
