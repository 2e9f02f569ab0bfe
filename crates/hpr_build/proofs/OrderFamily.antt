-- The order links by number.
use Rattle.std.proofs.Common.{◌≡◌, ℕ, ◌<◌, ◌≤◌, List, [], Some, None, map, All, Contains, length, ◌↔◌, sym, ap, ◌∙◌, subst, arith}
use Rattle.std.proofs.lemmas.List.Elements.{All-weaker, All-contains_itself}
use Rattle.hpr_terms.proofs.Facts.{in_map, map_in}
use Rattle.hpr_paths.proofs.Stands.{count_whole}
use Rattle.hpr_syntax.specs.Tree.{Tree}
use Rattle.hpr_paths.specs.Spots.{Spot, defined_at, UsesAt}
use Rattle.hpr_paths.specs.Successors.{spots}
use Rattle.hpr_reach.specs.Reaches.{Reaches}
use Rattle.hpr_graph.specs.declared.link.LinkKind.TheVariants as link
use Rattle.hpr_graph.specs.declared.link.Link.{Link}
use Rattle.hpr_build.specs.declared.orders.Ordered.{Ordered}
use Rattle.hpr_build.specs.declared.pushes.NewLink.{NewLink}
use Rattle.hpr_build.specs.declared.tables.Variable.{Variable}
use Rattle.hpr_build.specs.Links.{exit_of, IsTargetAt, IsOrderLink}
use Rattle.hpr_build.specs.NewLinks.{target_of, order_link, OrdersAt, OrdersOf}
use Rattle.hpr_graph.specs.Graphs.{IsOnce}
use Rattle.hpr_build.specs.Orders.{IsBefore}
use Rattle.hpr_build.specs.Places.{Place, places}
use Rattle.hpr_build.specs.Stages.{IsVariable}
use Rattle.hpr_build.proofs.BridgeNumbers.{defined_within, target_once}
use Rattle.hpr_build.proofs.Families.{SomeOf}
use Rattle.hpr_build.proofs.LinkTurns.{into}
use Rattle.hpr_build.proofs.Once.{once_map}
use Rattle.hpr_build.proofs.Pairs.{no_pair}
use Rattle.hpr_build.proofs.PlaceIn.{count_places}
use Rattle.hpr_build.proofs.TargetNumbers.{target_uses, number_of_target, target_of_number}

module _ (t : Tree) (v : Variable) (var : IsVariable t v) where
  -- definitions are parts
  pub definition_within : (p : ℕ) → Contains v.definitions.now p → (0 < p) × (p ≤ length (places t))
  definition_within p h =
      let within = defined_within t p v.name.now ((var.definitions p).0 h) in
      (omega (arith, within.0), omega (arith, within.1, count_places t.body 1 None []))

  -- and so they are for the order between them
  pub parts_within : (parts : List Place) → parts ≡ places t → (reaching : List ℕ) → ((p : ℕ) → Contains reaching p → Contains v.definitions.now p) → All (λ p. (0 < p) × (p ≤ length parts)) reaching
  parts_within parts whole reaching some =
      let size : length parts ≡ length (places t) = ap (λ (ps : List Place). length ps) whole in
      All-weaker (Contains reaching) (λ p. (0 < p) × (p ≤ length parts)) (λ p h. let w = definition_within p (some p h) in (w.0, omega (arith, w.1, size))) reaching (All-contains_itself reaching)

  pub points_within : (s : List Spot) → s ≡ spots t → All (λ p. p < length s) v.definitions.now
  points_within s whole =
      let size : length s ≡ length (spots t) = ap (λ (xs : List Spot). length xs) whole in
      All-weaker (Contains v.definitions.now) (λ p. p < length s) (λ p h. let w = definition_within p h in omega (arith, w.1, size, count_whole t, count_places t.body 1 None [])) v.definitions.now (All-contains_itself v.definitions.now)

  module _ (u number : ℕ) (uses : UsesAt (spots t) u v.name.now) (is : number ≡ target_of (exit_of t) v.final_number u) (parts : List Place) (whole : parts ≡ places t) (reaching : List ℕ)
      (reached : (p : ℕ) → Contains reaching p ↔ (Contains v.definitions.now p × Reaches (spots t) v.name.now [] p u)) (pairs : List Ordered)
      (exact : (o : Ordered) → Contains pairs o ↔ (Contains reaching o.left × Contains reaching o.right × IsBefore parts o.left o.right)) where
    abbrev pub New : List NewLink
    New = map (order_link number) pairs

    pub orders_of_links : (to : ℕ) (l : Link) → Contains New (into to l) → OrdersAt t v.name.now u to l
    orders_of_links to l h =
        let (o, has, same) = map_in (order_link number) pairs (into to l) h in
        let right : o.right ≡ to = ap (λ (n : NewLink). n.to) same in
        let left : o.left ≡ l.from = ap (λ (n : NewLink). n.link.from) same in
        let kind : link.Order number ≡ l.kind = ap (λ (n : NewLink). n.link.kind) same in
        let (a, b, before) = (exact o).0 has in
        let (da, ra) = (reached o.left).0 a in
        let (db, rb) = (reached o.right).0 b in
        let x : List ℕ = v.name.now in (
          number,
          sym kind,
          target_of_number t v var u number uses is,
          subst (λ (n : ℕ). defined_at (spots t) n ≡ Some x) left ((var.definitions o.left).0 da),
          subst (λ (n : ℕ). defined_at (spots t) n ≡ Some x) right ((var.definitions o.right).0 db),
          subst (λ (n : ℕ). IsBefore (places t) l.from n) right (subst (λ (n : ℕ). IsBefore (places t) n o.right) left (subst (λ (ps : List Place). IsBefore ps o.left o.right) whole before)),
          subst (λ (n : ℕ). Reaches (spots t) x [] n u) left ra,
          subst (λ (n : ℕ). Reaches (spots t) x [] n u) right rb,
        )

    pub links_of_orders : (to : ℕ) (l : Link) → OrdersAt t v.name.now u to l → Contains New (into to l)
    links_of_orders to l (w, kind, target, left, right, before, one, two) =
        let o : Ordered = record { left = l.from; right = to } in
        let has : Contains pairs o = (exact o).1 (
          (reached l.from).1 ((var.definitions l.from).1 left, one),
          (reached to).1 ((var.definitions to).1 right, two),
          subst (λ (ps : List Place). IsBefore ps l.from to) (sym whole) before,
        ) in
        let at : number ≡ w = is ∙ sym (number_of_target t v var u w target) in
        let same : order_link number o ≡ into to l = λ i. record { to = to; link = record { from = l.from; kind = (ap (λ (n : ℕ). link.Order n) at ∙ sym kind) i } } in
        subst (Contains New) same (in_map (order_link number) pairs o has)

  pub order_links_once : (number : ℕ) (pairs : List Ordered) → IsOnce pairs → IsOnce (map (order_link number) pairs)
  order_links_once number pairs once =
      once_map (order_link number) pairs once
      (λ o p ho hp e.
      let left : o.left ≡ p.left = ap (λ (n : NewLink). n.link.from) e in
      let right : o.right ≡ p.right = ap (λ (n : NewLink). n.to) e in
      λ i. record { left = left i; right = right i })

  -- between fewer than two definitions there is no order
  pub no_orders : length v.definitions.now < 2 → (to : ℕ) (l : Link) → ¬ OrdersOf t v.name.now to l
  no_orders few to l (u, (w, kind, target, left, right, before, one, two)) =
      let same : l.from ≡ to = no_pair v.definitions.now l.from to few ((var.definitions l.from).1 left) ((var.definitions to).1 right) in
      omega (arith, same, before.0)

  pub some_use : (to : ℕ) (l : Link) → SomeOf v.users.now (λ u. OrdersAt t v.name.now u to l) → OrdersOf t v.name.now to l
  some_use to l (u, has, h) = (u, h)

  pub use_of_some : (to : ℕ) (l : Link) → OrdersOf t v.name.now to l → SomeOf v.users.now (λ u. OrdersAt t v.name.now u to l)
  use_of_some to l (u, (w, kind, target, left, right, before, one, two)) =
      (u, (var.users u).1 (target_uses t v.name.now u w target), (w, kind, target, left, right, before, one, two))

order_kind : (v w : ℕ) → link.Order v ≡ link.Order w → v ≡ w
order_kind v w e = cc

module _ (t : Tree) (to : ℕ) (l : Link) where
  pub one_use : (x : List ℕ) (u r : ℕ) → OrdersAt t x u to l → OrdersAt t x r to l → u ≡ r
  one_use x u r (v, kind, target, left, right, before, one, two) (w, kind', target', left', right', before', one', two') =
      let same : v ≡ w = order_kind v w (sym kind ∙ kind') in
      target_once t x x u r w (subst (IsTargetAt t x u) same target) target'

  pub name_of_order : (x y : List ℕ) → OrdersOf t y to l → OrdersOf t x to l → y ≡ x
  name_of_order x y (u, (v, kind, target, left, right, before, one, two)) (r, (w, kind', target', left', right', before', one', two')) =
      let e : Some y ≡ Some x = sym left ∙ left' in
      cc

  pub order_of_name : (x : List ℕ) → OrdersOf t x to l → IsOrderLink t to l
  order_of_name x (u, (v, kind, target, left, right, before, one, two)) = (x, u, v, kind, target, left, right, before.0, before.1, one, two)

  module _ (names : List (List ℕ)) (used : (x : List ℕ) → Contains names x ↔ ((p : ℕ) × UsesAt (spots t) p x)) where
    pub some_ordered : SomeOf names (λ x. OrdersOf t x to l) → IsOrderLink t to l
    some_ordered (x, has, h) = order_of_name x h

    pub ordered_of_some : IsOrderLink t to l → SomeOf names (λ x. OrdersOf t x to l)
    ordered_of_some (x, u, v, kind, target, left, right, low, apart, one, two) =
        (x, (used x).1 (u, target_uses t x u v target), (u, (v, kind, target, left, right, (low, apart), one, two)))

pub made_orders : (number : ℕ) (pairs ps : List Ordered) (links : List NewLink) → links ≡ map (order_link number) ps → ps ≡ pairs → links ≡ map (order_link number) pairs
made_orders number pairs ps links made same = made ∙ ap (λ (os : List Ordered). map (order_link number) os) same
