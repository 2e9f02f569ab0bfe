-- No tag stands twice in a program.
use Rattle.std.proofs.Common.{◌≡◌, Bool, true, false, List, [], ◌∷◌, None, refl, sym, subst, inl, inr}
use Rattle.hpr_terms.specs.declared.tag.Tag.{Tag}
use Rattle.hpr_syntax.specs.Body.{Body, done, action, branch, loop}
use Rattle.hpr_syntax.specs.Parts.{same_tag, tags_of}
use Rattle.std.specs.List.{list_any}
use Rattle.hpr_terms.proofs.Facts.{or_right, or_left, or_false, if_none}
use Rattle.hpr_syntax.specs.Tree.{Tree}
use Rattle.hpr_syntax.specs.Shape.{IsProgram, first_repeated}
use Rattle.hpr_syntax.specs.Skeleton.{Skeleton, nil, act, fork, round, Point, at, StandsIn, Apart, Distinct, skeleton}
use Rattle.hpr_syntax.proofs.NoRefusal.{no_refusal}
use Rattle.hpr_syntax.proofs.TagLemmas.{same_tag_itself}
use Rattle.hpr_paths.proofs.SkeletonTags.{same_at}
use Rattle.hpr_paths.proofs.Among.{no_both}

-- a tag that stands earlier
abbrev pub is_seen : Tag → List Tag → Bool
is_seen t seen = list_any (same_tag t) seen

abbrev pub IsSeen : List Tag → Tag → Type 0
IsSeen seen t = is_seen t seen ≡ true

abbrev Rest : Skeleton → List Tag → List Tag → Type 0
Rest B seen after = (s : List Tag) × (first_repeated same_tag s after ≡ None) × ((t : Tag) → IsSeen seen t → IsSeen s t) × ((t : Tag) → StandsIn B (at t) → IsSeen s t)

abbrev pub AreNew : Skeleton → List Tag → List Tag → Type 0
AreNew B seen after = Distinct B × ((t : Tag) → StandsIn B (at t) → is_seen t seen ≡ false) × Rest B seen after

stays_out : (B : Skeleton) (seen : List Tag) (t : Tag) → ((u : Tag) → StandsIn B (at u) → is_seen u seen ≡ false) → IsSeen seen t → ¬ StandsIn B (at t)
stays_out B seen t f s i = no_both s (f t i)

seen_itself : (t : Tag) (seen : List Tag) → IsSeen (t ∷ seen) t
seen_itself t seen = or_left (same_tag t t) (is_seen t seen) (same_tag_itself t)

seen_before : (t u : Tag) (seen : List Tag) → IsSeen seen u → IsSeen (t ∷ seen) u
seen_before t u seen s = or_right (same_tag u t) (is_seen u seen) s

new_before : (t u : Tag) (seen : List Tag) → is_seen u (t ∷ seen) ≡ false → is_seen u seen ≡ false
new_before t u seen e = (or_false (same_tag u t) (is_seen u seen) e).1

unseen : (a b : List Tag) (u : Tag) → ((t : Tag) → IsSeen a t → IsSeen b t) → is_seen u b ≡ false → is_seen u a ≡ false
unseen a b u f e = go (is_seen u a) refl
  where
    go : (y : Bool) → is_seen u a ≡ y → is_seen u a ≡ false
    go true p = no_both (f u p) e
    go false p = p

-- no tag of B stands in C, which comes after it
apart_of : (B C : Skeleton) (s : List Tag) → ((t : Tag) → StandsIn B (at t) → IsSeen s t) → ((t : Tag) → StandsIn C (at t) → is_seen t s ≡ false) → ((p : Point) → StandsIn B p → (t : Tag) × (p ≡ at t)) → Apart B C
apart_of B C s f g is p i j = let t = is p i in no_both (f t.0 (subst (StandsIn B) t.1 i)) (g t.0 (subst (StandsIn C) t.1 j))

pub part_at : (B : Skeleton) (p : Point) → StandsIn B p → (t : Tag) × (p ≡ at t)
part_at nil p h = absurd h
part_at (act t k) p (inl e) = (t, e)
part_at (act t k) p (inr h) = part_at k p h
part_at (fork t b c k) p (inl e) = (t, e)
part_at (fork t b c k) p (inr (inl h)) = part_at b p h
part_at (fork t b c k) p (inr (inr (inl h))) = part_at c p h
part_at (fork t b c k) p (inr (inr (inr h))) = part_at k p h
part_at (round t b k) p (inl e) = (t, e)
part_at (round t b k) p (inr (inl h)) = part_at b p h
part_at (round t b k) p (inr (inr h)) = part_at k p h

pub are_new : (B : Body) (seen after : List Tag) → first_repeated same_tag seen (tags_of B after) ≡ None → AreNew (skeleton B) seen after
are_new done seen after e = (tt, (λ t i. absurd i), (seen, e, (λ t s. s), (λ t i. absurd i)))
are_new (action t action_ rest) seen after q =
    let n = if_none (is_seen t seen) t (first_repeated same_tag (t ∷ seen) (tags_of rest after)) q in
    let r = are_new rest (t ∷ seen) after n.1 in (
      (stays_out (skeleton rest) (t ∷ seen) t r.1 (seen_itself t seen), r.0),
      has n.0 r.1,
      (r.2.0, r.2.1, (λ u s. r.2.2 u (seen_before t u seen s)), got r.2.0 r.2.2 r.2.3),
    )
  where
    has : is_seen t seen ≡ false → ((u : Tag) → StandsIn (skeleton rest) (at u) → is_seen u (t ∷ seen) ≡ false) → (u : Tag) → StandsIn (act t (skeleton rest)) (at u) → is_seen u seen ≡ false
    has n f u (inl d) = subst (λ v. is_seen v seen ≡ false) (sym (same_at d)) n
    has n f u (inr i) = new_before t u seen (f u i)

    got : (s : List Tag) → ((u : Tag) → IsSeen (t ∷ seen) u → IsSeen s u) → ((u : Tag) → StandsIn (skeleton rest) (at u) → IsSeen s u) → (u : Tag) → StandsIn (act t (skeleton rest)) (at u) → IsSeen s u
    got s f g u (inl d) = subst (IsSeen s) (sym (same_at d)) (f t (seen_itself t seen))
    got s f g u (inr i) = g u i
are_new (branch t e a b rest) seen after q =
    let n = if_none (is_seen t seen) t (first_repeated same_tag (t ∷ seen) (tags_of a (tags_of b (tags_of rest after)))) q in
    let x = are_new a (t ∷ seen) (tags_of b (tags_of rest after)) n.1 in
    let y = are_new b x.2.0 (tags_of rest after) x.2.1 in
    let z = are_new rest y.2.0 after y.2.1 in
    let ty = λ (u : Tag) (s : IsSeen (t ∷ seen) u). x.2.2 u s in
    let tz = λ (u : Tag) (s : IsSeen (t ∷ seen) u). y.2.2 u (ty u s) in (
      (
        stays_out (skeleton a) (t ∷ seen) t x.1 (seen_itself t seen),
        stays_out (skeleton b) x.2.0 t y.1 (ty t (seen_itself t seen)),
        stays_out (skeleton rest) y.2.0 t z.1 (tz t (seen_itself t seen)),
        apart_of (skeleton a) (skeleton b) x.2.0 x.2.3 y.1 (part_at (skeleton a)),
        apart_of (skeleton a) (skeleton rest) y.2.0 (λ u i. y.2.2 u (x.2.3 u i)) z.1 (part_at (skeleton a)),
        apart_of (skeleton b) (skeleton rest) y.2.0 y.2.3 z.1 (part_at (skeleton b)),
        x.0,
        y.0,
        z.0,
      ),
      has n.0 x.1 (λ u i. unseen (t ∷ seen) x.2.0 u ty (y.1 u i)) (λ u i. unseen (t ∷ seen) y.2.0 u tz (z.1 u i)),
      (z.2.0, z.2.1, (λ u s. z.2.2 u (tz u (seen_before t u seen s))), got z.2.0 (λ u s. z.2.2 u (tz u s)) (λ u i. z.2.2 u (y.2.2 u (x.2.3 u i))) (λ u i. z.2.2 u (y.2.3 u i)) z.2.3),
    )
  where
    has : is_seen t seen ≡ false → ((u : Tag) → StandsIn (skeleton a) (at u) → is_seen u (t ∷ seen) ≡ false) → ((u : Tag) → StandsIn (skeleton b) (at u) → is_seen u (t ∷ seen) ≡ false)
        → ((u : Tag) → StandsIn (skeleton rest) (at u) → is_seen u (t ∷ seen) ≡ false) → (u : Tag) → StandsIn (fork t (skeleton a) (skeleton b) (skeleton rest)) (at u) → is_seen u seen ≡ false
    has n f g h u (inl d) = subst (λ v. is_seen v seen ≡ false) (sym (same_at d)) n
    has n f g h u (inr (inl i)) = new_before t u seen (f u i)
    has n f g h u (inr (inr (inl i))) = new_before t u seen (g u i)
    has n f g h u (inr (inr (inr i))) = new_before t u seen (h u i)

    got : (s : List Tag) → ((u : Tag) → IsSeen (t ∷ seen) u → IsSeen s u) → ((u : Tag) → StandsIn (skeleton a) (at u) → IsSeen s u) → ((u : Tag) → StandsIn (skeleton b) (at u) → IsSeen s u)
        → ((u : Tag) → StandsIn (skeleton rest) (at u) → IsSeen s u) → (u : Tag) → StandsIn (fork t (skeleton a) (skeleton b) (skeleton rest)) (at u) → IsSeen s u
    got s f g h k u (inl d) = subst (IsSeen s) (sym (same_at d)) (f t (seen_itself t seen))
    got s f g h k u (inr (inl i)) = g u i
    got s f g h k u (inr (inr (inl i))) = h u i
    got s f g h k u (inr (inr (inr i))) = k u i
are_new (loop t e b rest) seen after q =
    let n = if_none (is_seen t seen) t (first_repeated same_tag (t ∷ seen) (tags_of b (tags_of rest after))) q in
    let x = are_new b (t ∷ seen) (tags_of rest after) n.1 in
    let z = are_new rest x.2.0 after x.2.1 in (
      (
        stays_out (skeleton b) (t ∷ seen) t x.1 (seen_itself t seen),
        stays_out (skeleton rest) x.2.0 t z.1 (x.2.2 t (seen_itself t seen)),
        apart_of (skeleton b) (skeleton rest) x.2.0 x.2.3 z.1 (part_at (skeleton b)),
        x.0,
        z.0,
      ),
      has n.0 x.1 (λ u i. unseen (t ∷ seen) x.2.0 u x.2.2 (z.1 u i)),
      (z.2.0, z.2.1, (λ u s. z.2.2 u (x.2.2 u (seen_before t u seen s))), got z.2.0 (λ u s. z.2.2 u (x.2.2 u s)) (λ u i. z.2.2 u (x.2.3 u i)) z.2.3),
    )
  where
    has : is_seen t seen ≡ false → ((u : Tag) → StandsIn (skeleton b) (at u) → is_seen u (t ∷ seen) ≡ false) → ((u : Tag) → StandsIn (skeleton rest) (at u) → is_seen u (t ∷ seen) ≡ false)
        → (u : Tag) → StandsIn (round t (skeleton b) (skeleton rest)) (at u) → is_seen u seen ≡ false
    has n f h u (inl d) = subst (λ v. is_seen v seen ≡ false) (sym (same_at d)) n
    has n f h u (inr (inl i)) = new_before t u seen (f u i)
    has n f h u (inr (inr i)) = new_before t u seen (h u i)

    got : (s : List Tag) → ((u : Tag) → IsSeen (t ∷ seen) u → IsSeen s u) → ((u : Tag) → StandsIn (skeleton b) (at u) → IsSeen s u) → ((u : Tag) → StandsIn (skeleton rest) (at u) → IsSeen s u)
        → (u : Tag) → StandsIn (round t (skeleton b) (skeleton rest)) (at u) → IsSeen s u
    got s f g k u (inl d) = subst (IsSeen s) (sym (same_at d)) (f t (seen_itself t seen))
    got s f g k u (inr (inl i)) = g u i
    got s f g k u (inr (inr i)) = k u i

pub distinct_of : (B : Body) → first_repeated same_tag [] (tags_of B []) ≡ None → Distinct (skeleton B)
distinct_of B e = (are_new B [] [] e).0

pub distinct_program : (t : Tree) → IsProgram t → Distinct (skeleton t.body)
distinct_program t prog = distinct_of t.body (no_refusal t prog.shape).tags
