-- The template at a place of the order, as it is read from the table.
use mathlib.Core.Path.{◌≡◌, sym, ◌∙◌, ap}
use mathlib.Core.List.{[]}
use Prim.Native.Nat.{ℕ, ◌+◌, ◌≤◌, ◌<◌}
use native.Mathlib.Omega.{arith}
use lib.ListN.{length, get_or}
use Rattle.model.specs.Text.{Bytes}
use Rattle.macros.specs.declared.Table.{Table}
use Rattle.macros.specs.Table.{start_in, len_in, order_in, template_in, templates_in, Entries}
use Rattle.macros.proofs.Entries.{templates_in_length, templates_in_at}
use Rattle.templates.specs.Order.{placed, InOrder}

module _ {p : ℕ} {text : Bytes} {t : Table} {n : ℕ} (h : Entries text t n × InOrder p (templates_in text t n) (order_in t)) (i k : ℕ) (u : i < n) (q : k ≡ order_in t i) where
  -- a place of the order has the number k of a template
  order_within : k < n
  order_within = let e = templates_in_length text t n in omega (arith, h.1.within i (omega arith))

  -- the table has the template, and it lies in the text
  pub placed_few : k < 128
  placed_few = omega (arith, h.0.few, order_within)

  pub placed_inside : start_in t k + len_in t k ≤ length text
  placed_inside = h.0.inside k order_within

  pub placed_is : template_in text t k ≡ placed (templates_in text t n) (order_in t) i
  placed_is = sym (templates_in_at text t n k order_within) ∙ ap (λ (j : ℕ). get_or (templates_in text t n) j []) q
