-- Reach by number and by tag.
use Rattle.std.proofs.Common.{◌≡◌, ◌+◌, ℕ, Option, Some, List, [], take, Contains, ◌↔◌, inr, refl, sym, ap, ◌∙◌, subst}
use Rattle.hpr_terms.specs.declared.tag.Tag.{Tag}
use Rattle.hpr_syntax.specs.Body.{part_count}
use Rattle.hpr_syntax.specs.Tree.{Tree}
use Rattle.hpr_syntax.specs.Skeleton.{Point}
use Rattle.hpr_syntax.specs.Skeleton as points
use Rattle.hpr_syntax.specs.Paths.{DefinesAt, IsUndisturbed}
use Rattle.hpr_syntax.specs.Shape.{IsProgram}
use Rattle.hpr_paths.specs.declared.spot.Step.{Step}
use Rattle.hpr_paths.specs.Spots.{Role, enter, part, exit, point_of, loops_of, role_at, tag_at, nest_at, defined_at, RoleUses, UsesAt}
use Rattle.hpr_paths.specs.Successors.{spot_of, spots}
use Rattle.hpr_paths.specs.Numbers.{IsNumberOf, HaveTags, marks_of, NumberUndisturbed}
use Rattle.hpr_paths.proofs.Stands.{get_of_whole}
use Rattle.hpr_paths.proofs.Whole.{last_role}
use Rattle.hpr_paths.proofs.Tags.{number_once}
use Rattle.hpr_paths.proofs.Nested.{number_of_nest, says_of_number, number_of_says}
use Rattle.hpr_paths.proofs.Defines.{defines_of_number, number_of_defines}
use Rattle.hpr_paths.proofs.PathLaws.{path_of_numbers, numbers_of_path}
use Rattle.hpr_reach.specs.Reaches.{back_to, AvoidsLoops, Reaches}
use Rattle.hpr_reach.specs.Live.{IsLive}
use Rattle.hpr_reach.specs.Flows.{AvoidsCommon}
use Rattle.hpr_reach.specs.ByTags.{NestOf, AvoidsTags, AvoidsShared}
use Rattle.hpr_syntax.specs.Initial.{UsedBy, IsInitial}
use Rattle.hpr_reach.proofs.Marked.{tags_taken, step_of_mark, mark_of_step, tag_of_number, tags_once, avoids_by_tags, shared_by_tags}

abbrev Marks : Type 0
Marks = List (Option Tag)

last_nest : (t : Tree) → nest_at (spots t) (part_count t.body + 1) ≡ []
last_nest t = ap loops_of (get_of_whole t (part_count t.body + 1) (spot_of [] [] (exit t.finals)) (inr (inr (refl, refl))))

module _ (t : Tree) (prog : IsProgram t) where
  first : IsNumberOf (spots t) 0 points.enter
  first = (enter, refl, refl)

  last : IsNumberOf (spots t) (part_count t.body + 1) points.exit
  last = (exit t.finals, last_role t, refl)

  no_loops : (p q : ℕ) (loops : List Tag) → p ≡ q → nest_at (spots t) q ≡ [] → loops ≡ [] → HaveTags (spots t) (nest_at (spots t) p) loops
  no_loops p q loops is none e =
      let start : HaveTags (spots t) [] [] = refl in
      let here : nest_at (spots t) p ≡ [] = ap (nest_at (spots t)) is ∙ none in
      let tags : HaveTags (spots t) [] loops = subst (HaveTags (spots t) []) (sym e) start in
      subst (λ (ls : List ℕ). HaveTags (spots t) ls loops) (sym here) tags

  -- the loops around a number are those around its point
  pub nest_tags : (p : ℕ) (a : Point) (loops : List Tag) → IsNumberOf (spots t) p a → NestOf t.body a loops → HaveTags (spots t) (nest_at (spots t) p) loops
  nest_tags p points.enter loops number is = no_loops p 0 loops (number_once t p 0 points.enter prog number first) refl is
  nest_tags p (points.at v) loops number (s, stands, is) =
      let k = number_of_nest t v s stands in
      let same : k.0 ≡ p = number_once t k.0 p (points.at v) prog (part v s.content, k.1, refl) number in
      let tags : HaveTags (spots t) (nest_at (spots t) k.0) loops = subst (HaveTags (spots t) (nest_at (spots t) k.0)) (sym is) k.2 in
      subst (λ (n : ℕ). HaveTags (spots t) (nest_at (spots t) n) loops) same tags
  nest_tags p points.exit loops number is = no_loops p (part_count t.body + 1) loops (number_once t p (part_count t.body + 1) points.exit prog number last) (last_nest t) is

  pub path_to_tags : (x : List ℕ) (p q : ℕ) (a z : Point) (steps : List Step) → NumberUndisturbed (spots t) x p q steps → IsNumberOf (spots t) p a → IsNumberOf (spots t) q z → IsUndisturbed t.body x a z (marks_of (spots t) steps)
  path_to_tags x p q a z steps path na nz =
      path_of_numbers t (λ b. defined_at (spots t) b ≡ Some x) (DefinesAt t.body x) (λ b y nb h. number_of_defines t b y x prog nb h) a z path na nz

  pub path_to_numbers : (x : List ℕ) (p : ℕ) (a z : Point) (marks : Marks) → IsNumberOf (spots t) p a → IsUndisturbed t.body x a z marks
      → (q : ℕ) × (steps : List Step) × NumberUndisturbed (spots t) x p q steps × IsNumberOf (spots t) q z × (marks ≡ marks_of (spots t) steps)
  path_to_numbers x p a z marks na path =
      numbers_of_path t (λ b. defined_at (spots t) b ≡ Some x) (DefinesAt t.body x) prog (λ b y nb h. defines_of_number t b y x nb h) p na path

  -- paths by number with Q are those of the program with R
  paths_with : (x : List ℕ) (p q : ℕ) (a z : Point) (Q : List Step → Type 0) (R : Marks → Type 0) → IsNumberOf (spots t) p a → IsNumberOf (spots t) q z → ((steps : List Step) → Q steps ↔ R (marks_of (spots t) steps))
      → ((steps : List Step) × NumberUndisturbed (spots t) x p q steps × Q steps) ↔ ((marks : Marks) × IsUndisturbed t.body x a z marks × R marks)
  paths_with x p q a z Q R na nz same = (
    (λ (steps, path, has). (marks_of (spots t) steps, path_to_tags x p q a z steps path na nz, (same steps).0 has)),
    (λ (marks, path, has).
        let k = path_to_numbers x p a z marks na path in
        let place : k.0 ≡ q = number_once t k.0 q z prog k.3 nz in
        (k.1, subst (λ (n : ℕ). NumberUndisturbed (spots t) x p n k.1) place k.2, (same k.1).1 (subst R k.4 has))),
  )

  pub reach_tags : (x : List ℕ) (p q cut : ℕ) (a z : Point) (loops : List Tag) → IsNumberOf (spots t) p a → IsNumberOf (spots t) q z → NestOf t.body a loops
      → Reaches (spots t) x (take cut (nest_at (spots t) p)) p q ↔ ((marks : Marks) × IsUndisturbed t.body x a z marks × AvoidsTags (take cut loops) marks)
  reach_tags x p q cut a z loops na nz nest =
      let here : List ℕ = take cut (nest_at (spots t) p) in
      let have : HaveTags (spots t) here (take cut loops) = tags_taken (spots t) cut (nest_at (spots t) p) loops (nest_tags p a loops na nest) in
      paths_with x p q a z (AvoidsLoops here) (AvoidsTags (take cut loops)) na nz (λ steps. avoids_by_tags t prog here (take cut loops) steps have)

  pub carried_tags : (x : List ℕ) (p q l : ℕ) (a z : Point) (w : Tag) → IsNumberOf (spots t) p a → IsNumberOf (spots t) q z → IsNumberOf (spots t) l (points.at w)
      → ((steps : List Step) × NumberUndisturbed (spots t) x p q steps × Contains steps (back_to l)) ↔ ((marks : Marks) × IsUndisturbed t.body x a z marks × Contains marks (Some w))
  carried_tags x p q l a z w na nz nl =
      let tag : tag_at (spots t) l ≡ Some w = tag_of_number (spots t) l w nl in
      paths_with x p q a z (λ steps. Contains steps (back_to l)) (λ marks. Contains marks (Some w)) na nz (λ steps. (
        (λ h. mark_of_step (spots t) steps l w h tag),
        (λ h.
            let s = step_of_mark (spots t) steps w h in
            subst (λ (n : ℕ). Contains steps (back_to n)) (tags_once t prog s.0 l w s.2 tag) s.1),
      ))

  pub independent_tags : (x : List ℕ) (p q : ℕ) (a z : Point) (loops others : List Tag) → IsNumberOf (spots t) p a → IsNumberOf (spots t) q z → NestOf t.body a loops → NestOf t.body z others
      → ((steps : List Step) × NumberUndisturbed (spots t) x p q steps × AvoidsCommon (spots t) p q steps) ↔ ((marks : Marks) × IsUndisturbed t.body x a z marks × AvoidsShared loops others marks)
  independent_tags x p q a z loops others na nz nest beside =
      paths_with x p q a z (AvoidsCommon (spots t) p q) (AvoidsShared loops others) na nz
      (λ steps. shared_by_tags t prog (nest_at (spots t) p) (nest_at (spots t) q) loops others steps (nest_tags p a loops na nest) (nest_tags q z others nz beside))

  role_one : (p : ℕ) (r s : Role) → role_at (spots t) p ≡ Some r → role_at (spots t) p ≡ Some s → r ≡ s
  role_one p r s a b = let e : Some r ≡ Some s = sym a ∙ b in cc

  -- what a number uses its point uses
  pub used_tag : (p : ℕ) (x : List ℕ) (r : Role) → role_at (spots t) p ≡ Some r → RoleUses r x → UsedBy t x (point_of r)
  used_tag p x enter is uses = absurd uses
  used_tag p x (part v c) is uses = (c, says_of_number t p v c is, uses)
  used_tag p x (exit finals) is uses =
      let place : p ≡ part_count t.body + 1 = number_once t p (part_count t.body + 1) points.exit prog (exit finals, is, refl) last in
      let same : exit finals ≡ exit t.finals = role_one p (exit finals) (exit t.finals) is (ap (role_at (spots t)) place ∙ last_role t) in
      let names : finals ≡ t.finals = cc in
      subst (λ (ns : List (List ℕ)). Contains ns x) names uses

  -- and the other way round
  pub used_number : (p : ℕ) (x : List ℕ) (a : Point) → IsNumberOf (spots t) p a → UsedBy t x a → UsesAt (spots t) p x
  used_number p x points.enter number used = absurd used
  used_number p x (points.at v) number (c, says, uses) =
      let k = number_of_says t v c says in
      let same : k.0 ≡ p = number_once t k.0 p (points.at v) prog (part v c, k.1, refl) number in
      (part v c, ap (role_at (spots t)) (sym same) ∙ k.1, uses)
  used_number p x points.exit number used =
      let place : p ≡ part_count t.body + 1 = number_once t p (part_count t.body + 1) points.exit prog number last in
      (exit t.finals, ap (role_at (spots t)) place ∙ last_role t, used)

  pub live_tags : (x : List ℕ) → IsLive (spots t) x ↔ IsInitial t x
  live_tags x = (
    (λ (u, steps, path, (r, is, uses)).
        (point_of r, marks_of (spots t) steps, path_to_tags x 0 u points.enter (point_of r) steps path first (r, is, refl), used_tag u x r is uses)),
    (λ (a, marks, path, used).
        let k = path_to_numbers x 0 points.enter a marks first path in
        (k.0, k.1, k.2, used_number k.0 x a k.3 used)),
  )
