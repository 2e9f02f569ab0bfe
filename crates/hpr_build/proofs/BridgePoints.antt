-- Sources and targets by number are what defines and what uses a name in the program.
use Rattle.std.proofs.Common.{◌≡◌, ℕ, ◌+◌, ◌<◌, ◌↔◌, inl, inr, Option, Some, List, Contains, refl, sym, ap, ◌∙◌, subst, arith}
use Rattle.std.specs.List.{slice_get}
use Rattle.std.specs.Option.{option_and_then}
use Rattle.hpr_terms.specs.declared.tag.Tag.{Tag}
use Rattle.hpr_terms.proofs.Facts.{contains_at, place_of}
use Rattle.hpr_syntax.specs.Skeleton as points
use Rattle.hpr_syntax.specs.Skeleton.{Point}
use Rattle.hpr_syntax.specs.Paths.{IsUndisturbed}
use Rattle.hpr_syntax.specs.Initial.{IsInitial}
use Rattle.hpr_syntax.specs.Shape.{IsProgram}
use Rattle.hpr_syntax.specs.Tree.{Tree}
use Rattle.hpr_paths.specs.Spots.{Role, enter, part, exit, defined, role_at, defined_at, RoleUses}
use Rattle.hpr_paths.specs.Successors.{spots}
use Rattle.hpr_paths.specs.Numbers.{IsNumberOf}
use Rattle.hpr_paths.proofs.Whole.{last_role}
use Rattle.hpr_paths.proofs.Tags.{number_once}
use Rattle.hpr_paths.proofs.Nested.{says_of_number, number_of_says}
use Rattle.hpr_graph.specs.declared.vertex.Vertex.{Vertex}
use Rattle.hpr_graph.specs.declared.vertex.Vertex.TheVariants.{Entry, Init, Part, Final}
use Rattle.hpr_graph.specs.Graphs.{name_of}
use Rattle.hpr_graph.specs.ProgramGraph.{Defines, Reads}
use Rattle.hpr_graph.proofs.Laws.{used_by_reads}
use Rattle.hpr_build.specs.Links.{part_vertex, vertices_of, exit_of, first_init, IsSourceAt, IsTargetAt}
use Rattle.hpr_build.proofs.PlaceLaws.{role_of_part, number_of_part}
use Rattle.hpr_build.proofs.BridgeNumbers.{part_of_defined, role_within}
use Rattle.hpr_build.proofs.BridgeVertices.{vertex_at_part, vertex_at_role, vertex_at_final, vertex_at_init}

abbrev Marks : Type 0
Marks = List (Option Tag)

-- a vertex defines a name at one point, and uses one at one point
pub defines_once : (t : Tree) (x y : List ℕ) (v : Vertex) (a b : Point) → Defines t x v a → Defines t y v b → a ≡ b
defines_once t x y Entry a b h k = absurd h
defines_once t x y (Init z) a b h k = h.1 ∙ sym k.1
defines_once t x y (Part u c) a b h k = h.2 ∙ sym k.2
defines_once t x y (Final z) a b h k = absurd h

pub reads_once : (t : Tree) (x y : List ℕ) (v : Vertex) (a b : Point) → Reads t x v a → Reads t y v b → a ≡ b
reads_once t x y Entry a b h k = absurd h
reads_once t x y (Init z) a b h k = absurd h
reads_once t x y (Part u c) a b h k = h.2 ∙ sym k.2
reads_once t x y (Final z) a b h k = h.2 ∙ sym k.2

-- an Init vertex from which a value flows to a use is one of the program
pub flows_from_init : (t : Tree) (x y : List ℕ) (to : Vertex) (a z : Point) (marks : Marks) → Defines t x (Init y) a → Reads t x to z → IsUndisturbed t.body x a z marks → IsInitial t y
flows_from_init t x y to a z marks (e, f) reads path =
    subst (IsInitial t) (sym e) (z, marks, subst (λ (b : Point). IsUndisturbed t.body x b z marks) f path, used_by_reads t x to z reads)

module _ (t : Tree) (inits : List (List ℕ)) where
  abbrev Vs : List Vertex
  Vs = vertices_of t inits

  pub enter_number : IsNumberOf (spots t) 0 points.enter
  enter_number = (enter, refl, refl)

  pub exit_number : IsNumberOf (spots t) (exit_of t) points.exit
  exit_number = (exit t.finals, last_role t, refl)

  pub source_defines : (x : List ℕ) (d v : ℕ) → IsSourceAt t inits x d v
      → (w : Vertex) × (a : Point) × (slice_get Vs v ≡ Some w) × Defines t x w a × IsNumberOf (spots t) d a × (name_of w ≡ Some x)
  source_defines x d v (inl (e, h)) =
      let (p, k, is) = part_of_defined t d x h in
      (part_vertex p, points.at p.tag, ap (slice_get Vs) e ∙ vertex_at_part t inits d p k, (is, says_of_number t d p.tag p.content (role_of_part t d p k), refl), number_of_part t d p k, is)
  source_defines x d v (inr (e, (k, h, is))) =
      (Init x, points.enter, ap (slice_get Vs) is ∙ vertex_at_init t inits k x h, (refl, refl), subst (λ (n : ℕ). IsNumberOf (spots t) n points.enter) (sym e) enter_number, refl)

  -- what defines a name at a part has its number
  pub defines_number : (x : List ℕ) (v : Tag) (w : Vertex) → Defines t x w (points.at v)
      → (d : ℕ) × (defined_at (spots t) d ≡ Some x) × (slice_get Vs d ≡ Some w) × IsNumberOf (spots t) d (points.at v)
  defines_number x v Entry h = absurd h
  defines_number x v (Init y) h = let e : points.at v ≡ points.enter = h.1 in absurd cc
  defines_number x v (Part u c) (is, says, e) =
      let k = number_of_says t u c says in
      (k.0, ap (option_and_then defined) k.1 ∙ is, vertex_at_role t inits k.0 u c k.1, (part u c, k.1, e))
  defines_number x v (Final y) h = absurd h

  pub defines_source : ((x : List ℕ) → Contains inits x ↔ IsInitial t x) → (x : List ℕ) (w : Vertex) (a : Point) → Defines t x w a → ((y : List ℕ) → w ≡ Init y → IsInitial t y)
      → (d v : ℕ) × IsSourceAt t inits x d v × (slice_get Vs v ≡ Some w) × IsNumberOf (spots t) d a × (name_of w ≡ Some x)
  defines_source names x Entry a h initial = absurd h
  defines_source names x (Init y) a (e, f) initial =
      let k = place_of inits y ((names y).1 (initial y refl)) in (
        0,
        first_init t + k.0,
        inr (refl, (k.0, k.1 ∙ ap (λ (z : List ℕ). Some z) e, refl)),
        vertex_at_init t inits k.0 y k.1,
        (enter, refl, f),
        ap (λ (z : List ℕ). Some z) e,
      )
  defines_source names x (Part u c) a (is, says, e) initial =
      let k = number_of_says t u c says in
      (k.0, k.0, inl (refl, ap (option_and_then defined) k.1 ∙ is), vertex_at_role t inits k.0 u c k.1, (part u c, k.1, e), is)
  defines_source names x (Final y) a h initial = absurd h

  abbrev TargetReads : List ℕ → ℕ → ℕ → Type 0
  TargetReads x u v = (w : Vertex) × (z : Point) × (slice_get Vs v ≡ Some w) × Reads t x w z × IsNumberOf (spots t) u z

  part_reads : IsProgram t → (x : List ℕ) (u v : ℕ) (r : Role) → v ≡ u → u < exit_of t → role_at (spots t) u ≡ Some r → RoleUses r x → TargetReads x u v
  part_reads prog x u v enter e l is uses = absurd uses
  part_reads prog x u v (part w c) e l is uses =
      (Part w c, points.at w, ap (slice_get Vs) e ∙ vertex_at_role t inits u w c is, (uses, says_of_number t u w c is, refl), (part w c, is, refl))
  part_reads prog x u v (exit finals) e l is uses =
      let last : u ≡ exit_of t = number_once t u (exit_of t) points.exit prog (exit finals, is, refl) exit_number in
      absurd (omega (arith, l, last))

  pub target_reads : IsProgram t → (x : List ℕ) (u v : ℕ) → IsTargetAt t x u v → TargetReads x u v
  target_reads prog x u v (inl (e, l, (r, is, uses))) = part_reads prog x u v r e l is uses
  target_reads prog x u v (inr (e, (k, h, is))) =
      (Final x, points.exit, ap (slice_get Vs) is ∙ vertex_at_final t inits k x h, (refl, contains_at t.finals k x h, refl), subst (λ (n : ℕ). IsNumberOf (spots t) n points.exit) (sym e) exit_number)

  pub reads_target : (x : List ℕ) (w : Vertex) (z : Point) → Reads t x w z → (u v : ℕ) × IsTargetAt t x u v × (slice_get Vs v ≡ Some w) × IsNumberOf (spots t) u z
  reads_target x Entry z h = absurd h
  reads_target x (Init y) z h = absurd h
  reads_target x (Part v c) z (uses, says, e) =
      let k = number_of_says t v c says in
      (k.0, k.0, inl (refl, (role_within t k.0 v c k.1).1, (part v c, k.1, uses)), vertex_at_role t inits k.0 v c k.1, (part v c, k.1, e))
  reads_target x (Final y) z (e, there, f) =
      let k = place_of t.finals x there in (
        exit_of t,
        exit_of t + k.0,
        inr (refl, (k.0, k.1, refl)),
        vertex_at_final t inits k.0 x k.1 ∙ ap (λ (y : List ℕ). Some (Final y)) (sym e),
        (exit t.finals, last_role t, f),
      )
