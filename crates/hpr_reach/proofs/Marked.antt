-- Back edges by number and by tag.
use Rattle.std.proofs.Common.{◌≡◌, ℕ, Bool, true, false, cond, Option, Some, None, List, [], ◌∷◌, take, Contains, ◌↔◌, inl, inr, refl, sym, ap, ◌∙◌, subst}
use Rattle.std.specs.Option.{option_and_then}
use Rattle.std.proofs.lemmas.List.{take-map}
use Rattle.hpr_terms.specs.declared.tag.Tag.{Tag}
use Rattle.hpr_terms.proofs.Facts.{in_none, in_here, in_later, in_cons}
use Rattle.hpr_syntax.specs.Skeleton.{at}
use Rattle.hpr_syntax.specs.Tree.{Tree}
use Rattle.hpr_syntax.specs.Shape.{IsProgram}
use Rattle.hpr_paths.specs.declared.spot.Step.{Step}
use Rattle.hpr_paths.specs.Spots.{Role, enter, part, exit, Spot, point_of, tag_of, role_at, tag_at}
use Rattle.hpr_paths.specs.Successors.{spots}
use Rattle.hpr_paths.specs.Numbers.{IsNumberOf, HaveTags, mark_of, marks_of}
use Rattle.hpr_paths.proofs.Tags.{number_once}
use Rattle.hpr_reach.specs.Reaches.{back_to, AvoidsLoops}
use Rattle.hpr_reach.specs.ByTags.{AvoidsTags, AvoidsShared}

module _ (S : List Spot) where
  pub tag_of_loop : (loops : List ℕ) (tags : List Tag) (l : ℕ) → HaveTags S loops tags → Contains loops l → (w : Tag) × Contains tags w × (tag_at S l ≡ Some w)
  tag_of_loop [] tags l have h = absurd (in_none l h)
  tag_of_loop (k ∷ loops) [] l have h = absurd cc
  tag_of_loop (k ∷ loops) (v ∷ tags) l have h =
      let first : tag_at S k ≡ Some v = cc in
      let rest : HaveTags S loops tags = cc in
      elim (in_cons k l loops h) [
        | inl e ↦ (v, in_here v tags, ap (tag_at S) (sym e) ∙ first)
        | inr later ↦ (let r = tag_of_loop loops tags l rest later in (r.0, in_later v r.0 tags r.1, r.2))
      ]

  pub loop_of_tag : (loops : List ℕ) (tags : List Tag) (w : Tag) → HaveTags S loops tags → Contains tags w → (l : ℕ) × Contains loops l × (tag_at S l ≡ Some w)
  loop_of_tag loops [] w have h = absurd (in_none w h)
  loop_of_tag [] (v ∷ tags) w have h = absurd cc
  loop_of_tag (k ∷ loops) (v ∷ tags) w have h =
      let first : tag_at S k ≡ Some v = cc in
      let rest : HaveTags S loops tags = cc in
      elim (in_cons v w tags h) [
        | inl e ↦ (k, in_here k loops, first ∙ ap (λ (t : Tag). Some t) e)
        | inr later ↦ (let r = loop_of_tag loops tags w rest later in (r.0, in_later k r.0 loops r.1, r.2))
      ]

  mark_by : (s : Step) (b : Bool) (w : Tag) → s.back ≡ b → cond b (tag_at S s.to) None ≡ Some w → (s ≡ back_to s.to) × (tag_at S s.to ≡ Some w)
  mark_by s true w is h = (ap (λ (c : Bool). record { to = s.to; back = c }) is, h)
  mark_by s false w is h = absurd cc

  pub step_of_mark : (steps : List Step) (w : Tag) → Contains (marks_of S steps) (Some w) → (l : ℕ) × Contains steps (back_to l) × (tag_at S l ≡ Some w)
  step_of_mark [] w h = absurd (in_none (Some w) h)
  step_of_mark (s ∷ steps) w h = elim (in_cons (mark_of S s) (Some w) (marks_of S steps) h) [
    | inl e ↦ (let m = mark_by s s.back w refl e in (s.to, subst (Contains (s ∷ steps)) m.0 (in_here s steps), m.1))
    | inr later ↦ (let r = step_of_mark steps w later in (r.0, in_later s (back_to r.0) steps r.1, r.2))
  ]

  pub mark_of_step : (steps : List Step) (l : ℕ) (w : Tag) → Contains steps (back_to l) → tag_at S l ≡ Some w → Contains (marks_of S steps) (Some w)
  mark_of_step [] l w h is = absurd (in_none (back_to l) h)
  mark_of_step (s ∷ steps) l w h is = elim (in_cons s (back_to l) steps h) [
    | inl e ↦ subst (Contains (mark_of S s ∷ marks_of S steps)) (ap (mark_of S) e ∙ is) (in_here (mark_of S s) (marks_of S steps))
    | inr later ↦ in_later (mark_of S s) (Some w) (marks_of S steps) (mark_of_step steps l w later is)
  ]

  pub tags_taken : (cut : ℕ) (loops : List ℕ) (tags : List Tag) → HaveTags S loops tags → HaveTags S (take cut loops) (take cut tags)
  tags_taken cut loops tags have =
      sym (take-map (tag_at S) cut loops) ∙ ap (take cut) have ∙ take-map (λ (t : Tag). Some t) cut tags

  tag_one : (p : ℕ) (v w : Tag) → tag_at S p ≡ Some v → tag_at S p ≡ Some w → v ≡ w
  tag_one p v w a b = let e : Some v ≡ Some w = sym a ∙ b in cc

  tag_by : (p : ℕ) (r : Role) (w : Tag) → role_at S p ≡ Some r → at w ≡ point_of r → tag_at S p ≡ Some w
  tag_by p enter w is h = absurd cc
  tag_by p (part v c) w is h = let e : v ≡ w = cc in ap (option_and_then tag_of) is ∙ ap (λ (u : Tag). Some u) e
  tag_by p (exit finals) w is h = absurd cc

  -- the tag at the number of a part
  pub tag_of_number : (p : ℕ) (w : Tag) → IsNumberOf S p (at w) → tag_at S p ≡ Some w
  tag_of_number p w (r, is, h) = tag_by p r w is h

  part_by : (p : ℕ) (r : Option Role) (w : Tag) → role_at S p ≡ r → option_and_then tag_of r ≡ Some w → IsNumberOf S p (at w)
  part_by p None w is h = absurd cc
  part_by p (Some enter) w is h = absurd cc
  part_by p (Some (part v c)) w is h = (part v c, is, (let e : w ≡ v = cc in ap at e))
  part_by p (Some (exit finals)) w is h = absurd cc

module _ (t : Tree) (prog : IsProgram t) where
  -- a part's tag is that of one number
  pub tags_once : (p q : ℕ) (w : Tag) → tag_at (spots t) p ≡ Some w → tag_at (spots t) q ≡ Some w → p ≡ q
  tags_once p q w a b = number_once t p q (at w) prog (part_by (spots t) p (role_at (spots t) p) w refl a) (part_by (spots t) q (role_at (spots t) q) w refl b)

  pub avoids_by_tags : (loops : List ℕ) (tags : List Tag) (steps : List Step) → HaveTags (spots t) loops tags → AvoidsLoops loops steps ↔ AvoidsTags tags (marks_of (spots t) steps)
  avoids_by_tags loops tags steps have = (
    (λ avoids w h there.
        let l = loop_of_tag (spots t) loops tags w have h in
        let s = step_of_mark (spots t) steps w there in
        avoids l.0 l.1 (subst (λ (k : ℕ). Contains steps (back_to k)) (tags_once s.0 l.0 w s.2 l.2) s.1)),
    (λ avoids l h there.
        let w = tag_of_loop (spots t) loops tags l have h in
        avoids w.0 w.1 (mark_of_step (spots t) steps l w.0 there w.2)),
  )

  pub shared_by_tags : (loops others : List ℕ) (tags extra : List Tag) (steps : List Step) → HaveTags (spots t) loops tags → HaveTags (spots t) others extra
      → ((w : ℕ) → Contains loops w → Contains others w → ¬ Contains steps (back_to w)) ↔ AvoidsShared tags extra (marks_of (spots t) steps)
  shared_by_tags loops others tags extra steps have also = (
    (λ avoids w h k there.
        let l = loop_of_tag (spots t) loops tags w have h in
        let m = loop_of_tag (spots t) others extra w also k in
        let s = step_of_mark (spots t) steps w there in
        avoids l.0 l.1 (subst (Contains others) (tags_once m.0 l.0 w m.2 l.2) m.1)
        (subst (λ (n : ℕ). Contains steps (back_to n)) (tags_once s.0 l.0 w s.2 l.2) s.1)),
    (λ avoids l h k there.
        let w = tag_of_loop (spots t) loops tags l have h in
        let v = tag_of_loop (spots t) others extra l also k in
        let same : v.0 ≡ w.0 = tag_one (spots t) l v.0 w.0 v.2 w.2 in
        avoids w.0 w.1 (subst (Contains extra) same v.1) (mark_of_step (spots t) steps l w.0 there w.2)),
  )
