-- What may be placed next is what some arrangement has there, and what clashes is in no arrangement with the graph.
use Rattle.std.proofs.Common.{◌≡◌, ℕ, zero, suc, ◌+◌, ◌-◌, ◌<◌, ◌≤◌, Bool, true, false, IsTrue, Option, Some, List, [], ◌∷◌, ◌++◌, map, length, slice_get, Contains, refl, sym, ap, ◌∙◌, subst, arith, append-nil, append_assoc, length-append}
use Rattle.std.proofs.lemmas.Option.{get_or_from_slice_get, slice_get_within}
use Rattle.hpr_terms.specs.declared.tag.Tag.{Tag}
use Rattle.hpr_terms.proofs.Facts.{some_inj, contains_at, get_below, get_in_map, get_map, place_of}
use Rattle.hpr_syntax.specs.declared.rows.Content.{Content}
use Rattle.hpr_syntax.specs.Issued.{Issued, issued_to}
use Rattle.hpr_syntax.specs.Proper.{IsProperIssued}
use Rattle.hpr_syntax.specs.Tree.{Tree}
use Rattle.hpr_syntax.proofs.IssuedTags.{serial_of}
use Rattle.hpr_graph.specs.declared.vertex.Vertex.{Vertex}
use Rattle.hpr_graph.specs.declared.vertex.Vertex.TheVariants.{Entry, Part}
use Rattle.hpr_graph.specs.Answer.{Fits}
use Rattle.hpr_graph.specs.Arrangements.{IsArrangement}
use Rattle.hpr_graph.specs.Numbered.{Numbered, graph_in}
use Rattle.hpr_graph.specs.Rank.{parts_of}
use Rattle.hpr_forest.specs.Choices.{Follows, IsWhole, IsBacktrackFree}
use Rattle.hpr_forest.proofs.Leaves.{follows_push, follows_front, follows_last}
use Rattle.hpr_forest.proofs.Unique.{in_first, in_later}
use Rattle.hpr_order.specs.Arranging.{AreIssued}
use Rattle.hpr_order.proofs.ListFacts.{map_append}
use Rattle.hpr_region.specs.declared.plan.Plan.{Plan}
use Rattle.hpr_region.specs.Plans.{BeginsWith, IsBegun, IsPlanOf, IsReady, State, clash_in, may_follow, number_at, numbers_at, placed_in, size_of, vertex_at, vertex_by, vertices_at}
use Rattle.hpr_region.proofs.ClashExcludes as law
use Rattle.hpr_region.proofs.Searching.{follows_length, follows_within, number_of}

pub is_true : (b : Bool) → IsTrue b → b ≡ true
is_true true t = refl
is_true false t = absurd cc

pub not_true : (b : Bool) → (b ≡ true → ⊥) → b ≡ false
not_true true h = absurd (h refl)
not_true false h = refl

pub same_item : (plan : Plan) (a b n : ℕ) → slice_get plan.numbers.items a ≡ Some n → slice_get plan.numbers.items b ≡ Some n → a ≡ b
same_item plan a b n ea eb = plan.once a b n ea eb

-- ---- whole lists

module _ (can : List ℕ → ℕ → Bool) (n : ℕ) (free : IsBacktrackFree can n) (l0 : List ℕ) (w0 : IsWhole can n l0) where
  extend : (m : ℕ) (q : List ℕ) → Follows can [] q → length q + m ≡ n → (r : List ℕ) × IsWhole can n (q ++ r)
  extend zero q f e =
      ([], record { len = ap length (append-nil q) ∙ (let h : length q + 0 ≡ n = e in omega (arith, h)); follows = subst (Follows can []) (sym (append-nil q)) f })
  extend (suc m) q f e =
      let (c, may) = free.goes_on q l0 f (omega (arith, e)) w0 in
      let (r, whole) = extend m (q ++ c ∷ []) (follows_push can n [] q c f may) (omega (arith, e, length-append q (c ∷ []))) in
      (c ∷ r, subst (IsWhole can n) (append_assoc q (c ∷ []) r) whole)

  pub extended : (q : List ℕ) → Follows can [] q → length q ≤ n → (r : List ℕ) × IsWhole can n (q ++ r)
  extended q f le = extend (n - length q) q f (omega (arith, le))

-- ---- items and vertices

module _ (g : Numbered) (rank : List Vertex) (plan : Plan) (is : IsPlanOf g rank plan) where
  abbrev numbers : List ℕ
  numbers = plan.numbers.items

  item : (k : ℕ) → k < size_of plan → (m : ℕ) × (slice_get numbers k ≡ Some m) × (slice_get g.vertices m ≡ Some (vertex_at g plan k))
  item k lt =
      let (m, em) = get_below numbers k lt in
      let (t, c, there) = is.parts.parts k m em in
      (m, em, there ∙ ap Some (sym (ap (vertex_by g) em ∙ get_or_from_slice_get g.vertices m (Part t c) Entry there)))

  by_number : (k : ℕ) → k < size_of plan → slice_get g.vertices (number_at plan k) ≡ Some (vertex_at g plan k)
  by_number k lt = let (m, em, there) = item k lt in ap (slice_get g.vertices) (number_of plan k m em) ∙ there

  -- the vertices of items by their numbers
  by_numbers : (l : List ℕ) → ((k : ℕ) → Contains l k → k < size_of plan) → map (slice_get g.vertices) (numbers_at plan l) ≡ map Some (vertices_at g plan l)
  by_numbers [] all = refl
  by_numbers (k ∷ l) all =
      ap (λ (o : Option Vertex). o ∷ map (slice_get g.vertices) (numbers_at plan l)) (by_number k (all k (in_first k l)))
      ∙ ap (λ (os : List (Option Vertex)). Some (vertex_at g plan k) ∷ os) (by_numbers l (λ j h. all j (in_later k j l h)))

  part_there : (k : ℕ) → k < size_of plan → (t : Tag) × (c : Content) × (vertex_at g plan k ≡ Part t c)
  part_there k lt =
      let (m, em) = get_below numbers k lt in
      let (t, c, there) = is.parts.parts k m em in
      (t, c, ap (vertex_by g) em ∙ get_or_from_slice_get g.vertices m (Part t c) Entry there)

  -- a number of an item's vertex is the item's
  number_there : (k n : ℕ) → k < size_of plan → slice_get g.vertices n ≡ Some (vertex_at g plan k) → slice_get numbers k ≡ Some n
  number_there k n lt e = let (m, em, there) = item k lt in em ∙ ap Some (is.numbered.once m n (vertex_at g plan k) there e)

  -- the front of a list by the numbers of its vertices
  peel : (q : List ℕ) (child : ℕ) (rest l : List ℕ) → ((k : ℕ) → Contains q k → k < size_of plan) → ((k : ℕ) → Contains l k → k < size_of plan)
      → map (slice_get g.vertices) (numbers_at plan q ++ child ∷ rest) ≡ map Some (vertices_at g plan l) → (k : ℕ) × (r : List ℕ) × (l ≡ q ++ k ∷ r) × (slice_get numbers k ≡ Some child)
  peel [] child rest [] in_q in_l e = absurd cc
  peel [] child rest (k ∷ l) in_q in_l e = (k, l, refl, number_there k child (in_l k (in_first k l)) (cc))
  peel (j ∷ q) child rest [] in_q in_l e = absurd cc
  peel (j ∷ q) child rest (k ∷ l) in_q in_l e =
      let head : slice_get g.vertices (number_at plan j) ≡ Some (vertex_at g plan k) = cc in
      let at_k : slice_get numbers k ≡ Some (number_at plan j) = number_there k (number_at plan j) (in_l k (in_first k l)) head in
      let (m, em, there) = item j (in_q j (in_first j q)) in
      let same : k ≡ j = is.parts.once k j m (at_k ∙ ap Some (number_of plan j m em)) em in
      let (i, r, split, at) = peel q child rest l (λ x h. in_q x (in_later j x q h)) (λ x h. in_l x (in_later k x l h)) (cc) in
      (i, r, ap (λ z. z ∷ l) same ∙ ap (λ zs. j ∷ zs) split, at)

  -- the same, of any parts
  begin_parts : (q : List ℕ) (child k : ℕ) (rest : List ℕ) (ps : List Vertex) → ((j : ℕ) → Contains q j → j < size_of plan) → slice_get numbers k ≡ Some child
      → map (slice_get g.vertices) (numbers_at plan q ++ child ∷ rest) ≡ map Some ps → (vs : List Vertex) × (ps ≡ vertices_at g plan q ++ vertex_at g plan k ∷ vs)
  begin_parts [] child k rest [] in_q at e = absurd cc
  begin_parts [] child k rest (v ∷ ps) in_q at e =
      let lt : k < size_of plan = slice_get_within numbers k child at in
      let here : slice_get g.vertices child ≡ Some (vertex_at g plan k) = ap (slice_get g.vertices) (sym (number_of plan k child at)) ∙ by_number k lt in
      let head : slice_get g.vertices child ≡ Some v = cc in
      (ps, ap (λ (z : Vertex). z ∷ ps) (some_inj v (vertex_at g plan k) (sym head ∙ here)))
  begin_parts (j ∷ q) child k rest [] in_q at e = absurd cc
  begin_parts (j ∷ q) child k rest (v ∷ ps) in_q at e =
      let head : slice_get g.vertices (number_at plan j) ≡ Some v = cc in
      let same : v ≡ vertex_at g plan j = some_inj v (vertex_at g plan j) (sym head ∙ by_number j (in_q j (in_first j q))) in
      let (vs, split) = begin_parts q child k rest ps (λ x h. in_q x (in_later j x q h)) at (cc) in
      (vs, ap (λ (z : Vertex). z ∷ ps) same ∙ ap (λ (zs : List Vertex). vertex_at g plan j ∷ zs) split)

  begin_at : (q : List ℕ) (child : ℕ) (rest : List ℕ) (ps : List Vertex) → map (slice_get g.vertices) ((numbers_at plan q ++ child ∷ []) ++ rest) ≡ map Some ps
      → map (slice_get g.vertices) (numbers_at plan q ++ child ∷ rest) ≡ map Some ps
  begin_at q child rest ps e = subst (λ (xs : List ℕ). map (slice_get g.vertices) xs ≡ map Some ps) (append_assoc (numbers_at plan q) (child ∷ []) rest) e

  module _ (placed : List ℕ) (front : Follows (may_follow plan) [] placed) where
    in_placed : (k : ℕ) → Contains placed k → k < size_of plan
    in_placed k h = follows_within (may_follow plan) (size_of plan) is.free [] placed front k h

    begun_from : (k child : ℕ) → slice_get numbers k ≡ Some child → may_follow plan placed k ≡ true → IsBegun g (numbers_at plan placed ++ child ∷ [])
    begun_from k child at may =
        let ((l0, w0), (issued, proper, allowed)) = is.some placed k may in
        let (orders, ps, list, arranged, same) = is.listed issued proper allowed in
        let more : Follows (may_follow plan) [] (placed ++ k ∷ []) = follows_push (may_follow plan) (size_of plan) [] placed k front may in
        let short : length (placed ++ k ∷ []) ≤ size_of plan = longest (placed ++ k ∷ []) more in
        let (r, whole) = extended (may_follow plan) (size_of plan) is.free l0 w0 (placed ++ k ∷ []) more short in
        let l : List ℕ = (placed ++ k ∷ []) ++ r in
        let (i, ei) = place_of orders l (list.complete l whole) in
        let named : slice_get (map (vertices_at g plan) orders) i ≡ Some (vertices_at g plan l) = get_in_map (vertices_at g plan) orders i l ei in
        let (p, ep, parts) = get_map parts_of ps i (vertices_at g plan l) (subst (λ (vs : List (List Vertex)). slice_get vs i ≡ Some (vertices_at g plan l)) (sym same) named) in
        let in_l : (j : ℕ) → Contains l j → j < size_of plan = follows_within (may_follow plan) (size_of plan) is.free [] l whole.follows in
        let split : numbers_at plan l ≡ (numbers_at plan placed ++ child ∷ []) ++ numbers_at plan r =
        map_append (number_at plan) (placed ++ k ∷ []) r
        ∙ ap (λ xs. xs ++ numbers_at plan r) (map_append (number_at plan) placed (k ∷ []) ∙ ap (λ z. numbers_at plan placed ++ z ∷ []) (number_of plan k child at)) in
        let pre : map (slice_get g.vertices) ((numbers_at plan placed ++ child ∷ []) ++ numbers_at plan r) ≡ map Some (parts_of p) =
        ap (map (slice_get g.vertices)) (sym split) ∙ by_numbers l in_l ∙ ap (map Some) (sym parts) in
        (issued, p, (arranged.0 p).0 (contains_at ps i p ep), (numbers_at plan r, pre))
      where
        longest : (q : List ℕ) → Follows (may_follow plan) [] q → length q ≤ size_of plan
        longest q f = follows_length (may_follow plan) (size_of plan) is.free q f

    clash_none : (k child : ℕ) → slice_get numbers k ≡ Some child → clash_in plan placed k ≡ true → (issued : Issued) (p : Tree) → IsArrangement (graph_in g) issued p
        → BeginsWith g (numbers_at plan placed ++ child ∷ []) p → ¬ Fits (graph_in g) p
    clash_none k child at clash issued p arranged (rest, pre) =
        let (vs, split) = begin_parts placed child k rest (parts_of p) in_placed at (begin_at placed child rest (parts_of p) pre) in
        law.clash_excludes p arranged.program (graph_in g) (vertices_at g plan placed) vs (vertex_at g plan k) split (is.clashes placed k clash)

  from_begun : (placed : List ℕ) (child : ℕ) → IsBegun g (numbers_at plan placed ++ child ∷ []) → ((k : ℕ) → Contains placed k → k < size_of plan)
      → (k : ℕ) × (slice_get numbers k ≡ Some child) × (may_follow plan placed k ≡ true)
  from_begun placed child (issued, p, arranged, (rest, pre)) in_placed =
      let proper = arranged.program.proper in
      let numbers_ : p.issued ≡ issued = arranged.numbers in
      let allowed : AreIssued (graph_in g) issued = λ t c v. subst (λ (z : Issued). (1 ≤ t.serial) × (t.serial ≤ issued_to t.author z)) numbers_ (serial_of p arranged.program t c ((arranged.parts t c).1 v)) in
      let (orders, ps, list, all, same) = is.listed issued (subst (λ (z : Issued). IsProperIssued z) numbers_ (proper.ascending, proper.numbers)) allowed in
      let (i, ei) = place_of ps p ((all.0 p).1 arranged) in
      let named : slice_get (map parts_of ps) i ≡ Some (parts_of p) = get_in_map parts_of ps i p ei in
      let (l, el, parts) = get_map (vertices_at g plan) orders i (parts_of p) (subst (λ (vs : List (List Vertex)). slice_get vs i ≡ Some (parts_of p)) same named) in
      let whole = list.sound l (contains_at orders i l el) in
      let in_l : (j : ℕ) → Contains l j → j < size_of plan = follows_within (may_follow plan) (size_of plan) is.free [] l whole.follows in
      let (k, r, split, at) = peel placed child rest l in_placed in_l (begin_at placed child rest (parts_of p) pre ∙ ap (map Some) (sym parts)) in
      let follows : Follows (may_follow plan) [] ((placed ++ k ∷ []) ++ r) = subst (Follows (may_follow plan) []) (split ∙ sym (append_assoc placed (k ∷ []) r)) whole.follows in
      (k, at, follows_last (may_follow plan) (size_of plan) [] placed k (follows_front (may_follow plan) (size_of plan) [] (placed ++ k ∷ []) r follows))

pub begun_of_ready : (g : Numbered) (rank : List Vertex) (s : State) (child : ℕ) → IsPlanOf g rank s.plan → Follows (may_follow s.plan) [] s.placed → IsReady s child → IsBegun g (placed_in s ++ child ∷ [])
begun_of_ready g rank s child is front (k, at, may) = begun_from g rank s.plan is s.placed front k child at may

pub ready_of_begun : (g : Numbered) (rank : List Vertex) (s : State) (child : ℕ) → IsPlanOf g rank s.plan → Follows (may_follow s.plan) [] s.placed → IsBegun g (placed_in s ++ child ∷ []) → IsReady s child
ready_of_begun g rank s child is front begun = from_begun g rank s.plan is s.placed child begun (in_placed g rank s.plan is s.placed front)

pub clash_law : (g : Numbered) (rank : List Vertex) (s : State) (k child : ℕ) → IsPlanOf g rank s.plan → Follows (may_follow s.plan) [] s.placed → slice_get s.plan.numbers.items k ≡ Some child
    → clash_in s.plan s.placed k ≡ true → (issued : Issued) (p : Tree) → IsArrangement (graph_in g) issued p → BeginsWith g (placed_in s ++ child ∷ []) p → ¬ Fits (graph_in g) p
clash_law g rank s k child is front at clash issued p arranged begins = clash_none g rank s.plan is s.placed front k child at clash issued p arranged begins
