-- The loop of `fill_children`, and what `add_children`, `grow_tree` and `build` do around it.
use mathlib.Core.Path.{◌≡◌, refl, sym, ◌∙◌, ap, subst}
use mathlib.Core.List.{List, []}
use Prim.Native.Nat.{ℕ, suc, ◌+◌, ◌-◌, ◌≤◌, ◌<◌}
use native.Mathlib.Omega.{arith}
use lib.ListN.{length, get_or, set}
use lib.Seq.{get_or-set_same, get_or-set_other}
use Rattle.nodes.specs.declared.Node.{Node}
use Rattle.nodes.specs.Rows.{no_node, elem, first_of, count_of, template_of, height}
use Rattle.model.specs.Text.{Bytes}
use Rattle.templates.specs.Count.{known, beginnings}
use Rattle.templates.specs.Keys.{Smalls, keys}
use Rattle.templates.specs.Order.{InOrder, TakesRun}
use Rattle.tree.specs.Nodes.{columns, Half, Waiting, Made, Filled, with_kids, below, root_node}
use Rattle.tree.specs.Built.{ReadyToBuild, NodesMade}
use Rattle.templates.proofs.Keys.{key_past, holes_most}
use Rattle.templates.proofs.Order.{keys_ascend}
use Rattle.tree.proofs.Known.{templates-known}
use Rattle.tree.proofs.Nodes.{Next, stem, seal}
use Rattle.tree.proofs.Room.{room}
use Rattle.tree.proofs.Standing.{Ordered, Cut, after, waiting_carry, no_next, next, cut_on, waiting_more}
use Rattle.tree.proofs.Growth.{stored, relinked, unlinked, grow, has-height, linked, planted}

-- ---- the children of a node

-- the children of node i, the node x, for the templates before a place of the order are made: those of its keys below `low`
pub record Filling (p : ℕ) (ts : List Bytes) (order : ℕ → ℕ) (rows : List Node) (i made : ℕ) (x : Node) (c place : ℕ) : Type 0 where
  pub low : ℕ
  pub bytes : Smalls ts
  pub half : Half (keys p ts) (λ k. length (get_or ts k [])) (length ts) (columns rows) i c made low
  pub waiting : Waiting (keys p ts) (λ k. length (get_or ts k [])) (length ts) (columns rows) order i c
  pub cut : Cut (keys p ts) order x.first (x.first + x.count) (201 - x.height) place low
  pub node : x ≡ get_or rows i no_node
  pub open_node : ¬ (elem rows i ≡ 256)
  pub parent : i < made
  pub more : made ≤ c
  pub within : c ≤ suc (beginnings ts)
  pub most : low ≤ 258

module _ (p : ℕ) (ts : List Bytes) (order : ℕ → ℕ) where
  abbrev f : ℕ → ℕ → ℕ
  f = keys p ts

  abbrev len : ℕ → ℕ
  len k = length (get_or ts k [])

  -- past a template's end are ends
  ended : (k x : ℕ) → length (get_or ts k []) ≤ x → keys p ts k x ≡ 256
  ended k x le = key_past p (get_or ts k []) x le

  -- what their order gives
  ordered : InOrder p ts order → Ordered f (length ts) order
  ordered o = record { within = o.within; every = o.every; ascending = keys_ascend o }

  module _ {rows : List Node} {i made c place end : ℕ} {x : Node} (fl : Filling p ts order rows i made x c place) (last : end ≡ x.first + x.count) where
    uc : i < c
    uc = omega (arith, fl.more, fl.parent)

    -- where the run is cut, of a node that is x
    cut_at : (y : Node) → x ≡ y → Cut f order y.first (y.first + y.count) (201 - y.height) place fl.low
    cut_at y e = subst (λ (y : Node). Cut f order y.first (y.first + y.count) (201 - y.height) place fl.low) e fl.cut

    last_at : end ≡ first_of rows i + count_of rows i
    last_at = last ∙ ap (λ (y : Node). y.first + y.count) fl.node

    -- the run ends among the templates
    pub last_within : end ≤ length ts
    last_within = omega (arith, last_at, fl.waiting.within i (omega arith) uc)

    module _ (o : InOrder p ts order) where
      -- no template is left
      pub all_filled : end ≤ place → Filled p ts order rows i c made
      all_filled le = record {
        bytes = fl.bytes;
        more = fl.more;
        within = fl.within;
        half = seal f len (length ts) (columns rows) i c made fl.low fl.half uc 0 fl.most
            (no_next f len (length ts) (columns rows) order (ordered o) i c place fl.low fl.waiting uc (cut_at _ fl.node) 0 (omega (arith, last_at)));
        waiting = after f len (length ts) (columns rows) order i c fl.waiting;
        open_node = fl.open_node;
      }

      -- those of the next key are taken
      module _ {d key who stop : ℕ} (depth : d ≡ 201 - x.height) (run : TakesRun f order place end d key who stop) where
        -- from the run of a node that is x
        run_at : (y : Node) → x ≡ y → TakesRun f order place (y.first + y.count) (201 - y.height) key who stop
        run_at y e = subst (λ (y : Node). TakesRun f order place (y.first + y.count) (201 - y.height) key who stop) e (rw (← last, ← depth) run)

        next_key : Next f (length ts) (template_of rows i) (201 - height rows i) fl.low key who
        next_key = next f len (length ts) (columns rows) order (ordered o) i c place fl.low fl.waiting uc (cut_at _ fl.node) key who stop (run_at _ fl.node)

        kb : key < 258
        kb = omega (arith, run.small)

        module _ {first : List Node} (ready : ReadyToBuild p ts first) where
          high_enough : 0 < height rows i
          high_enough = has-height f len (length ts) ended (λ k u. ready.short k) rows i c made fl.low key who fl.half uc fl.open_node next_key kb

          few_holes : (get_or rows i no_node).holes < 1000
          few_holes =
              let s = stem f len (length ts) (columns rows) i c made fl.low fl.half i uc in
              let t = template_of rows i in
              omega (arith, s.placed, holes_most p (get_or ts t []) (201 - height rows i) (fl.bytes t), ready.nine t)

          -- what its node is made of fits
          pub child_fits : {from : ℕ} → from ≡ place → (key ≤ 257) × (who < 128) × (from ≤ stop) × (stop ≤ 128) × (0 < x.height) × (x.holes < 1000)
          child_fits e = (
            run.small,
            omega (arith, (next_key.there kb).0, ready.few),
            omega (arith, run.longer),
            omega (arith, run.within, last_within, ready.few),
            rw fl.node high_enough,
            rw fl.node few_holes,
          )

          -- there is room for it, in the count of nodes and in the row
          pub room_there : c < suc (beginnings ts)
          room_there = room f len (known ts) (length ts) (templates-known p ts fl.bytes) (columns rows) i c made fl.low fl.half uc ended key who fl.open_node next_key kb high_enough

          pub room_in_row : length rows ≡ length first → c < length rows
          room_in_row e = omega (arith, room_there, ready.room)

          module _ (longer : c < length rows) where
            abbrev child : Node
            child = below (get_or rows i no_node) key who place stop

            grown_at : Filling p ts order (set rows c child) i made x (c + 1) stop
            grown_at =
                let rows' = set rows c child in
                let n = length ts in
                let g = stored f len n rows c c child (omega arith) in
                let same : get_or rows' c no_node ≡ child = get_or-set_same rows c child no_node longer in
                let kept : get_or rows' i no_node ≡ get_or rows i no_node = get_or-set_other rows c i child no_node (λ z. omega (arith, uc)) in
                let high = (stem f len n (columns rows) i c made fl.low fl.half i uc).high in
                let w = waiting_carry f len n (columns rows) (columns rows') order c i c g (λ j v u. (g.first j u, g.number j u)) fl.waiting in
                let cut = cut_at (get_or rows' i no_node) (fl.node ∙ sym kept) in
                let run' = run_at (get_or rows' i no_node) (fl.node ∙ sym kept) in
                record {
                  low = key + 1;
                  bytes = fl.bytes;
                  half = grow f len n ended rows i c made fl.low key who place stop fl.half uc longer fl.open_node next_key kb high_enough;
                  waiting = waiting_more f len n (columns rows') order (ordered o) i c place fl.low w uc cut key who stop run'
                      (ap (λ (y : Node). y.template) same) (omega (arith, ap (λ (y : Node). y.height) same, g.height i uc, high_enough)) (omega (arith, g.height i uc, high))
                      (ap (λ (y : Node). y.first) same) (ap (λ (y : Node). y.count) same);
                  cut = subst (λ (y : Node). Cut f order y.first (y.first + y.count) (201 - y.height) stop (key + 1)) (sym fl.node)
                      (cut_on f len n (columns rows) order (ordered o) i c place fl.low fl.waiting uc (cut_at _ fl.node) key who stop (run_at _ fl.node));
                  node = fl.node ∙ sym kept;
                  open_node = λ z. fl.open_node (sym (g.element i uc) ∙ z);
                  parent = fl.parent;
                  more = omega (arith, fl.more);
                  within = omega (arith, room_there);
                  most = omega (arith, kb);
                }

            -- its node is made, and the templates that have it wait there
            pub grown : {from : ℕ} {rows' : List Node} {y : Node} → from ≡ place → y ≡ below x key who from stop → rows' ≡ set rows c y → Filling p ts order rows' i made x (c + 1) stop
            grown {from} {rows'} {y} z a b =
                let q : rows' ≡ set rows c child = b ∙ ap (set rows c) (a ∙ rw (z, fl.node) refl) in
                subst (λ (r : List Node). Filling p ts order r i made x (c + 1) stop) (sym q) grown_at

  -- ---- around the loop

  -- the nodes after one that was given its children wait as they did
  wait_on : (rows : List Node) (i c F m : ℕ) → i < length rows → Waiting f len (length ts) (columns rows) order (i + 1) c
      → Waiting f len (length ts) (columns (set rows i (with_kids (get_or rows i no_node) F m))) order (i + 1) c
  wait_on rows i c F m u = waiting_carry f len (length ts) (columns rows) (columns (set rows i (with_kids (get_or rows i no_node) F m))) order i (i + 1) c
      (relinked f len (length ts) rows i c F m u) (λ j v w. let e = unlinked rows i F m j (λ z. omega arith) in (ap (λ (x : Node). x.first) e, ap (λ (x : Node). x.count) e))

  -- an end has no children
  pub link_end : {rows rows' : List Node} {i made : ℕ} → NodesMade p ts order rows i made → i < made → i < length rows → elem rows i ≡ 256
      → rows' ≡ set rows i (with_kids (get_or rows i no_node) made (made - made)) → NodesMade p ts order rows' (i + 1) made
  link_end {rows} {rows'} {i} {made} r u w e q = let h = r.made in record {
    within = r.within;
    made = rw q (record {
      bytes = h.bytes;
      half = linked f len (length ts) ended rows i made made 0 h.half u u w (λ z. refl) (λ z. absurd (z e));
      waiting = wait_on rows i made made (made - made) w (after f len (length ts) (columns rows) order i made h.waiting);
    });
  }

  -- any other node has those that were made for it
  pub link_full : {rows rows' : List Node} {i made c : ℕ} → Filled p ts order rows i c made → i < made → i < length rows
      → rows' ≡ set rows i (with_kids (get_or rows i no_node) made (c - made)) → NodesMade p ts order rows' (i + 1) c
  link_full {rows} {rows'} {i} {made} {c} h u w q = record {
    within = h.within;
    made = rw q (record {
      bytes = h.bytes;
      half = linked f len (length ts) ended rows i c made 258 h.half u (omega (arith, h.more)) w (λ z. absurd (h.open_node z)) (λ z. refl);
      waiting = wait_on rows i c made (c - made) w h.waiting;
    });
  }

  -- the root alone, with all templates
  pub root_alone : Smalls ts → (rows : List Node) (n : ℕ) {rows' : List Node} {x : Node} → ReadyToBuild p ts rows → length ts ≡ n → x ≡ root_node n → rows' ≡ set rows 0 x
      → Made p ts order rows' 0 1
  root_alone b rows n {rows'} {x} ready size a q =
      let h = planted f len (length ts) ended rows n (omega (arith, ready.room)) in
      let same : get_or (set rows 0 (root_node n)) 0 no_node ≡ root_node n = get_or-set_same rows 0 (root_node n) no_node (omega (arith, ready.room)) in
      rw (q, a) (record {
        bytes = b;
        half = h;
        waiting = record {
          within = λ j lo hi. let z : j ≡ 0 = omega arith in rw (z, same) (omega arith);
          shared = λ j q lo hi u v y w. absurd (let z : j ≡ 0 = omega arith in omega (arith, rw (z, same) at w));
          stands = λ j q lo hi u s. let z : j ≡ 0 = omega arith in rw (z, same) (omega arith, omega arith);
        };
      })
