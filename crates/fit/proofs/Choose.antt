-- From the search at the root to the chosen reading: the row's tree is searched as the templates' tree is (Trees), which finds the chosen reading.
use Rattle.std.proofs.Common.{◌≡◌, ℕ, zero, suc, ◌+◌, ◌^◌, ◌<◌, ◌≤◌, Bool, true, false, List, [], ◌∷◌, ◌++◌, map, length, get_or, take, drop, replicate, sym, refl, ap, ◌∙◌, subst, ap₂, arith}
use mathlib.Core.Path.{fun_ext}
use Rattle.std.specs.Prelude.{Option as Answered, Some, None, IsNone, IfSome}
use mathlib.Core.Option.{Option, none, some}
use lib.ListN.{length-map}
use lib.Seq.{take-append_seam, drop-append_seam}
use Rattle.std.proofs.lemmas.Option.{same_Some}
use Rattle.model.specs.declared.Marks.{Marks}
use Rattle.model.specs.Text.{Bytes}
use Rattle.model.specs.Reading.{chosen}
use Rattle.model.specs.Fitting.{Distinct}
use Rattle.model.specs.Parts.{Elem, lit, hole, stop, ReadingPart, byte, piece, elems, text, elements, pieces}
use Rattle.model.specs.Children.{end_key}
use Rattle.model.specs.Places.{Found, Place, is_in, Tried, idle, or_try, take_up, after_look, try_past, try_atom, try_byte, try_piece, try_place, fitting, places_taken, bytes_read}
use Rattle.model.proofs.Choices.{false-not-true}
use Rattle.model.proofs.Parts.{elems-same}
use Rattle.model.proofs.Search.{walk, onward_inv, Is, sound}
use Rattle.model.proofs.Unmarked.{unmarked}
use Rattle.model.proofs.Renumbered.{Same, nothing, something}
use Rattle.model.proofs.Places.{finds_none, finds_chosen}
use Rattle.atom.specs.Atoms.{brackets}
use Rattle.atom.proofs.Atoms.{atom-brackets, look-brackets}
use Rattle.nodes.specs.declared.Node.{Node}
use Rattle.nodes.specs.Rows.{elem, template_of, kid, holey, height, holes}
use Rattle.nodes.specs.SideBySide.{SideBySide}
use Rattle.model.proofs.Children.{key_is}
use Rattle.nodes.proofs.Rows.{kid_child, kid-falls, kid-lit, root_plain, root_holes, front_node, front_long, front_root}
use Rattle.nodes.proofs.Templates.{walk_pre, walk_there}
use Rattle.fit.specs.Outcome.{pieces_in, Told, Says, HoldsDead, Outcomes, size_in, place_tried, SearchedIn}
use Rattle.fit.specs.declared.Notes.{Notes}
use Rattle.fit.specs.declared.Reading.{Reading}
use Rattle.fit.specs.Chosen.{reading_of, choice_of, TreeAt, Fits, Chosen, Chooses}
use Rattle.fit.specs.declared.Choice.{Choice}
use Rattle.fit.proofs.Steps.{none_is, some_is, told_none, told_some}
use Rattle.fit.proofs.Pieces.{lie_within, few_pieces, Stand, stand}
use Rattle.fit.proofs.Few.{taken_fits, read_fits}
use Rattle.fit.proofs.Trees.{spelt_at, tree_fitting}

-- a reading's elements lead to an end node
at-end : (rows : List Node) (i : ℕ) (r : List ReadingPart) (j : ℕ) → walk (kid rows) i (elements r) ≡ suc j → elem rows (suc j) ≡ end_key
at-end rows i [] j e =
    let (c, x, y) = onward_inv (λ k. k) (kid rows i stop) j e in
    ap (elem rows) (sym y) ∙ key_is (elem rows (suc c)) stop (kid_child rows i stop c x).1
at-end rows i (byte b ∷ r) j e =
    let (c, x, y) = onward_inv (λ k. walk (kid rows) k (elements r)) (kid rows i (lit b)) j e in
    at-end rows (suc c) r j y
at-end rows i (piece p ∷ r) j e =
    let (c, x, y) = onward_inv (λ k. walk (kid rows) k (elements r)) (kid rows i hole) j e in
    at-end rows (suc c) r j y

-- no notes yet
abbrev no_notes : Notes
no_notes = record { starts = replicate 9 0; lens = replicate 9 0; places = 0; bytes = 0; rest = 0 }

-- what is found in one tree is found in the other, but for the node
same_none : {o : Option Found} → Same none o → o ≡ none
same_none nothing = refl

same_some : {f : Found} {o : Option Found} → Same (some f) o → (g : Found) × (o ≡ some g) × (g.parts ≡ f.parts)
same_some (something q r i j) = (record { rest = q; parts = r; node = j }, refl, refl)

module _ (m : Marks) {marks : Marks} {templates : List Bytes} {rows : List Node} (tree : SideBySide marks templates rows) (line : Bytes) (o : Answered ℕ) (dead dead' : Bytes) (ns' : Notes)
    (done : Outcomes rows line 0 0 (suc (size_in rows line 0 0)) (λ n. place_tried m rows line 0 0 n) (record { dead = dead; dead' = dead'; notes = no_notes; notes' = ns' }) o)
    (clear : HoldsDead (length rows) (suc (length line)) dead []) where
  -- fuel that is enough
  abbrev fuel : ℕ
  fuel = suc (height rows 0 + length line)

  -- the search from the root, at first with no dead place
  abbrev result : Tried
  result = try_place m (kid rows) (holey rows) fuel 0 0 line []

  -- the pieces that are noted
  abbrev ps' : List ℕ
  ps' = pieces_in ns'

  -- their halves are the starts and the lengths
  halves : length ns'.starts ≡ 9 → (P : List ℕ → List ℕ → Type 0) → P (take 9 ps') (drop 9 ps') → P ns'.starts ns'.lens
  halves e P h =
      let a : take 9 ps' ≡ ns'.starts = subst (λ (n : ℕ). take n ps' ≡ ns'.starts) e (take-append_seam ns'.starts ns'.lens) in
      let b : drop 9 ps' ≡ ns'.lens = subst (λ (n : ℕ). drop n ps' ≡ ns'.lens) e (drop-append_seam ns'.starts ns'.lens) in
      subst (P ns'.starts) b (subst (λ (l : List ℕ). P l (drop 9 ps')) a h)

  -- the answer and the notes say what it finds
  told : Told (holes rows 0) 0 result.found o no_notes ns'
  told = (done.says fuel (omega arith) [] clear).0.told

  module _ {ts : List Bytes} (of : SideBySide m ts rows) where
    -- the notes say how many places it takes up, and how many bytes it reads
    module _ (few : length rows ≤ 2048) (short : length line ≤ 200) (n : ℕ) (fits : n < 2 ^ 64) where
      counted : n ≡ ns'.places → n ≡ places_taken m ts line
      counted w =
          omega (arith, w, (done.says fuel (omega arith) [] clear).0.counted.more_places, fits, taken_fits rows m tree few line short fuel)
          ∙ (tree_fitting of line fuel (omega arith)).0

      counted-bytes : n ≡ ns'.bytes → n ≡ bytes_read m ts line
      counted-bytes w =
          omega (arith, w, (done.says fuel (omega arith) [] clear).0.counted.more_bytes, fits, read_fits rows m tree few line short fuel)
          ∙ (tree_fitting of line fuel (omega arith)).1

    -- the templates' tree has it too
    same : Same result.found (fitting m ts line).found
    same = (tree_fitting of line fuel (omega arith)).2

    -- where nothing is found, the line is no call
    none-chosen : Distinct ts → ¬ (m.left ≡ m.right) → IsNone o → chosen m ts line ≡ none
    none-chosen distinct differ z =
        finds_none m ts distinct differ line
        (same_none (subst (λ (x : Option Found). Same x (fitting m ts line).found) (told_none (holes rows 0) 0 result.found o no_notes ns' told z) same))

  module _ {end : ℕ} (z : o ≡ Some end) where
    -- what is found, and that it is a reading
    reading : (f : Found) × (result.found ≡ some f) × Told (holes rows 0) 0 (some f) o no_notes ns' × Is m (kid rows) (holey rows) (kid-lit rows) 0 line f
    unfolding is_in
    reading =
        let (f, e, t) = told_some (holes rows 0) 0 result.found o no_notes ns' told (some_is z) in
        let u = unmarked m (kid rows) (holey rows) (height rows) (kid-falls tree) line fuel fuel 0 0 [] (omega arith) (omega arith) (λ i p w. false-not-true w) in
        (f, e, t, sound m (kid rows) (holey rows) (kid-lit rows) fuel 0 line f (sym u ∙ e))

    -- it is the chosen one
    some-chosen : (k : ℕ) → k ≡ template_of rows end → length ns'.starts ≡ 9 → {ts : List Bytes} → SideBySide m ts rows → Distinct ts → ¬ (m.left ≡ m.right)
        → Chosen m ts line (record { template = k; starts = ns'.starts; lens = ns'.lens })
    some-chosen k u long {ts} of distinct differ =
        let (f, e, (p, r, s), (j, w, h, x)) = reading in
        let n : end ≡ f.node = same_Some end f.node (sym z ∙ p) in
        let (g, found, parts) = same_some (subst (λ (x : Option Found). Same x (fitting m ts line).found) e (same of)) in
        let c = finds_chosen m ts distinct differ line g found in
        let none-left = h.only_hole (root_plain of) in
        let y : text f.parts ≡ line = ap (λ (q : Bytes). q ++ text f.parts) (sym none-left) ∙ x in
        let few : length (pieces f.parts) ≤ 9 = omega (arith, few_pieces of f.parts 0 j of.some_node h.leads) in
        let there = walk_there of (elements f.parts) 0 j of.some_node h.leads in
        let b : of.pre (suc j) ≡ elements f.parts = walk_pre of (elements f.parts) 0 j h.leads
        ∙ ap (λ (l : List _). l ++ elements f.parts) of.root.0 in
        let v = (of.says (suc j) there).template (at-end rows 0 f.parts j h.leads) in
        let is : k ≡ template_of rows (suc j) = u ∙ ap (template_of rows) (n ∙ w) in
        let lt : k < length ts = omega (arith, v.0, is, length-map ts (elems m)) in
        let t : elems m (get_or ts k []) ≡ elements f.parts = sym (spelt_at m ts k lt) ∙ ap (λ (i : ℕ). get_or (map (elems m) ts) i []) is ∙ v.1 ∙ b in
        let which : c.reading.which ≡ k = distinct c.reading.which k c.place lt
        (elems-same m (get_or ts c.reading.which []) (get_or ts k []) (c.template ∙ ap elements parts ∙ sym t)) in
        let at : 0 + length f.rest ≡ 0 = omega (arith, ap length none-left) in
        let (ss, ls, most, each) = subst (Stand m (get_or ts k []) line ns'.starts ns'.lens) (sym (ap pieces parts) ∙ c.pieces_are)
        (halves long (λ a b. Stand m (get_or ts k []) line a b (pieces f.parts)) (stand m (get_or ts k []) line f.parts ps' (sym t) y few (s ∙ rw (at, root_holes of) refl))) in
        record { reading = c.reading; is = c.is; which = which; place = lt; starts = ss; lens = ls; few = most; piece = each }

    -- its pieces lie in the line
    some-within : length ns'.starts ≡ 9 → (i : ℕ) → get_or ns'.starts i 0 + get_or ns'.lens i 0 ≤ length line
    some-within long =
        let (f, e, (p, r, s), (j, w, h, x)) = reading in
        halves long (λ a b. (i : ℕ) → get_or a i 0 + get_or b i 0 ≤ length line) (lie_within line f.rest f.parts (holes rows 0) ps' s (few_pieces tree f.parts 0 j tree.some_node h.leads) x)

-- ---- the search goes by the brackets alone

module _ (m : Marks) (kid : ℕ → Elem → ℕ) (holey : ℕ → Bool) where
  -- an atom is found by them
  atom-by : (F : ℕ → Bytes → List Place → Tried) (b : Bool) (p : ℕ) (s : Bytes) (ds : List Place) → try_atom (brackets m.left m.right) F b p s ds ≡ try_atom m F b p s ds
  atom-by F true p s ds = ap₂ (λ (n : ℕ) (o : Option (Bytes × Bytes)). after_look n (try_past F p o ds)) (look-brackets m s) (atom-brackets m s)
  atom-by F false p s ds = refl

  -- and so the search
  try_brackets : (n : ℕ) → try_place (brackets m.left m.right) kid holey n ≡ try_place m kid holey n
  unfolding try_place
  try_brackets zero = refl
  try_brackets (suc n) = fun_ext (λ i. fun_ext (λ p. fun_ext (λ s. fun_ext (λ ds.
      ap₂ (λ (F : ℕ → ℕ → Bytes → List Place → Tried) (G : List Place → Tried). elim (is_in i p ds) as (λ _. Tried) [
        | true ↦ idle ds
        | false ↦ take_up (record { node = i; at = p }) (or_try (try_byte kid F i p s ds) (λ ds. or_try (try_piece kid F i p s ds) G))
      ]) (try_brackets n)
      (fun_ext (λ ds. ap (λ (F : ℕ → ℕ → Bytes → List Place → Tried). try_atom (brackets m.left m.right) (F i) (holey i) p s ds) (try_brackets n)
      ∙ atom-by (try_place m kid holey n i) (holey i) p s ds))))))

-- what is searched by the brackets is searched by the marks
pub searched_by-brackets : (m : Marks) {row : List Node} {line : Bytes} {node at : ℕ} {dead dead' : Bytes} {notes notes' : Notes} {o : Answered ℕ}
    → SearchedIn (brackets m.left m.right) row line node at dead dead' notes notes' o → SearchedIn m row line node at dead dead' notes notes' o
searched_by-brackets m {row} {line} {node} {at} {dead} {dead'} {notes} {notes'} {o} done = record {
  comes = record {
    each = λ made s lt.
        let rows = take made row in
        let d = done.comes.each made s lt in
        record {
          says = λ n l ds k.
              subst (λ (F : ℕ → ℕ → Bytes → List Place → Tried). Says (holes rows node) at (F node at (drop at line) ds) o notes notes'
              × HoldsDead (length rows) (suc (length line)) dead' (F node at (drop at line) ds).dead) (try_brackets m (kid rows) (holey rows) n) (d.says n l ds k);
          short = d.short;
          there = d.there;
        };
  };
}

-- ---- in a row at whose front the tree stands

module _ {m : Marks} {row : List Node} {line : Bytes} {o : Answered ℕ} {dead dead' : Bytes} {notes' : Notes} (done : SearchedIn m row line 0 0 dead dead' no_notes notes' o) {count : ℕ} {dead0 : Bytes} (f : Fits row count dead0 line) where
  -- the search of the tree
  from-none : Outcomes (take count row) line 0 0 (suc (size_in (take count row) line 0 0)) (λ n. place_tried m (take count row) line 0 0 n)
      (record { dead = dead; dead' = dead'; notes = no_notes; notes' = notes' }) o
  from-none = done.comes.each count f.stands (front_root f.stands)

  -- what is found is a node of the tree
  found_below : {node : ℕ} → o ≡ Some node → node < count
  found_below {node} q = omega (arith, subst (λ (o : Answered ℕ). IfSome o (λ j. j < length (take count row))) q from-none.there, front_long f.stands)

  -- and so one of the row's
  pub found_there : {node : ℕ} → o ≡ Some node → node < length row
  found_there q = omega (arith, found_below q, f.stands.within)

  module _ (clear : HoldsDead (length (take count row)) (suc (length line)) dead []) (short : length line ≤ 200) where
    -- the tree has few nodes
    few_nodes : length (take count row) ≤ 2048
    few_nodes = omega (arith, front_long f.stands, f.few)

    -- the counts are those of the definition
    module _ {c : Choice} {r : Answered Reading} (q : c ≡ choice_of notes' r) (pf : c.places < 2 ^ 64) (bf : c.bytes < 2 ^ 64) where
      all_places : (ts : List Bytes) → TreeAt m row count ts → c.places ≡ places_taken m ts line
      all_places ts t = counted m f.stands.tree line o dead dead' notes' from-none clear t.tree few_nodes short c.places pf (ap (λ (c : Choice). c.places) q)

      all_bytes : (ts : List Bytes) → TreeAt m row count ts → c.bytes ≡ bytes_read m ts line
      all_bytes ts t = counted-bytes m f.stands.tree line o dead dead' notes' from-none clear t.tree few_nodes short c.bytes bf (ap (λ (c : Choice). c.bytes) q)

    -- where nothing is found, the line is no call
    pub no_call : {c : Choice} → o ≡ None → c ≡ choice_of notes' None → c.places < 2 ^ 64 → c.bytes < 2 ^ 64 → Chooses m row count line c
    no_call n q pf bf = record {
      no_call = λ _ ts t. none-chosen m f.stands.tree line o dead dead' notes' from-none clear t.tree t.distinct t.differ (none_is n);
      call = rw q tt;
      within = rw q tt;
      places = all_places q pf bf;
      bytes = all_bytes q pf bf;
    }

    -- where something is found, the line is a call
    pub is_call : {node k : ℕ} {r : Reading} {c : Choice} → o ≡ Some node → k ≡ template_of row node → r ≡ reading_of notes' k → length r.starts ≡ 9 → c ≡ choice_of notes' (Some r) → c.places < 2 ^ 64
        → c.bytes < 2 ^ 64 → Chooses m row count line c
    is_call {node} {k} {r} {c} w x p long q pf bf =
        let is : k ≡ template_of (take count row) node = x ∙ ap (λ (n : Node). n.template) (sym (front_node row count node (found_below w))) in
        let nine-there : length notes'.starts ≡ 9 = ap (λ (r : Reading). length r.starts) (sym p) ∙ long in
        let z : c.reading ≡ Some (reading_of notes' k) = ap (λ (c : Choice). c.reading) q ∙ ap Some p in
        record {
          no_call = λ e. false-not-true (sym e ∙ some_is z);
          call = rw z (λ ts t. some-chosen m f.stands.tree line o dead dead' notes' from-none clear w k is nine-there t.tree t.distinct t.differ);
          within = rw z (some-within m f.stands.tree line o dead dead' notes' from-none clear w nine-there);
          places = all_places q pf bf;
          bytes = all_bytes q pf bf;
        }
