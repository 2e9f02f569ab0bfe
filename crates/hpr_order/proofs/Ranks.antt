-- What the rank of a base and its variants has: each of their parts, once.
use Rattle.std.proofs.Common.{◌≡◌, ℕ, zero, suc, ◌+◌, true, false, ◌↔◌, ◌⊎◌, inl, inr, Option, Some, None, List, [], ◌∷◌, ◌++◌, map, Contains, slice_get, refl, sym, ap, ap₂, ◌∙◌, subst, append_assoc}
use Rattle.std.specs.List.{AllByRecursion}
use Rattle.std.proofs.lemmas.List.{append-nil, map-append}
use Rattle.std.proofs.lemmas.List.Elements.{All-contains, All-from_recursion, Contains-append_left, Contains-append_right, Contains-append_cases}
use Rattle.hpr_terms.specs.declared.tag.Tag.{Tag}
use Rattle.hpr_terms.proofs.Facts.{in_map, map_in}
use Rattle.hpr_syntax.specs.declared.rows.Row.{Row}
use Rattle.hpr_syntax.specs.Body.{Body, done, action, branch, loop}
use Rattle.hpr_syntax.specs.Parts.{same_tag, tags_of}
use Rattle.hpr_syntax.specs.Rows.{Parent, rows_of}
use Rattle.hpr_syntax.specs.Shape.{IsProgram}
use Rattle.hpr_syntax.specs.Tree.{Tree}
use Rattle.hpr_syntax.proofs.NoRefusal.{no_refusal}
use Rattle.hpr_syntax.proofs.Repeats.{places_once}
use Rattle.hpr_syntax.proofs.ShapeLemmas.{tags_append}
use Rattle.hpr_syntax.proofs.TagLemmas.{same_tag_itself}
use Rattle.hpr_graph.specs.declared.vertex.Vertex.{Vertex}
use Rattle.hpr_graph.specs.declared.vertex.Vertex.TheVariants.{Entry, Init, Part, Final}
use Rattle.hpr_graph.specs.Graphs.{IsOnce}
use Rattle.hpr_graph.proofs.Lists.{some_inj, in_none, in_cons, in_here, in_later}
use Rattle.hpr_graph.specs.Rank.{parts_of, IsAddedAt, IsPutIn, IsJoined, AreJoined, IsFirstChanged, IsRankOf, IsRank}
use Rattle.hpr_order.proofs.Lists.{put_has, put_once}

-- the tags of the rows are those of the parts
row_tags : (p : Parent) (i : ℕ) (body : Body) → map (λ (row : Row). row.tag) (rows_of p i body) ≡ tags_of body []
row_tags p i done = refl
row_tags p i (action t d rest) = ap (λ (ts : List Tag). t ∷ ts) (row_tags p (i + 1) rest)
row_tags p i (branch t e a b rest) =
    let yes : List Row = rows_of (Some (t, true)) 0 a in
    let no : List Row = rows_of (Some (t, false)) 0 b in
    let more : List Row = rows_of p (i + 1) rest in
    let tag : Row → Tag = λ row. row.tag in
    let left : map tag (yes ++ no ++ more) ≡ tags_of a [] ++ (tags_of b [] ++ tags_of rest []) =
    ap (map tag) (append_assoc yes no more) ∙ map-append tag yes (no ++ more) ∙ ap₂ (λ (us vs : List Tag). us ++ vs) (row_tags (Some (t, true)) 0 a)
    (map-append tag no more ∙ ap₂ (λ (us vs : List Tag). us ++ vs) (row_tags (Some (t, false)) 0 b) (row_tags p (i + 1) rest)) in
    ap (λ (ts : List Tag). t ∷ ts)
    (left ∙ ap (λ (ts : List Tag). tags_of a [] ++ ts) (sym (tags_append b [] (tags_of rest []))) ∙ sym (tags_append a [] (tags_of b (tags_of rest []))))
row_tags p i (loop t e b rest) =
    let tag : Row → Tag = λ row. row.tag in
    ap (λ (ts : List Tag). t ∷ ts)
    (map-append tag (rows_of (Some (t, true)) 0 b) (rows_of p (i + 1) rest)
    ∙ ap₂ (λ (us vs : List Tag). us ++ vs) (row_tags (Some (t, true)) 0 b) (row_tags p (i + 1) rest)
    ∙ sym (tags_append b [] (tags_of rest [])))

abbrev vertex_tag : Vertex → Option Tag
vertex_tag Entry = None
vertex_tag (Init x) = None
vertex_tag (Part t c) = Some t
vertex_tag (Final x) = None

tag_there : (rows : List Row) (i : ℕ) (v : Vertex) → slice_get (map (λ (row : Row). Part row.tag row.content) rows) i ≡ Some v
    → (t : Tag) × (slice_get (map (λ (row : Row). row.tag) rows) i ≡ Some t) × (vertex_tag v ≡ Some t)
tag_there [] i v h = absurd cc
tag_there (row ∷ rows) zero v h = (row.tag, refl, ap vertex_tag (sym (some_inj (Part row.tag row.content) v h)))
tag_there (row ∷ rows) (suc i) v h = tag_there rows i v h

-- nothing stands twice among a program's parts
pub parts_once : (t : Tree) → IsProgram t → IsOnce (parts_of t)
parts_once t prog i j v a b =
    let rows : List Row = rows_of None 0 t.body in
    let (s, at_i, is_i) = tag_there rows i v a in
    let (u, at_j, is_j) = tag_there rows j v b in
    let same : s ≡ u = some_inj s u (sym is_i ∙ is_j) in
    let tags : map (λ (row : Row). row.tag) rows ≡ tags_of t.body [] = row_tags None 0 t.body in
    places_once same_tag same_tag_itself [] (tags_of t.body []) i j u (no_refusal t prog.shape).tags
    (subst (λ (ts : List Tag). slice_get ts i ≡ Some u) tags (at_i ∙ ap (λ (w : Tag). Some w) same))
    (subst (λ (ts : List Tag). slice_get ts j ≡ Some u) tags at_j)

-- a vertex put in
added_has : (v : Vertex) (next : Option Vertex) (xs ys : List Vertex) → IsAddedAt v next xs ys → (w : Vertex) → Contains ys w ↔ ((v ≡ w) ⊎ Contains xs w)
added_has v None xs ys is w =
    subst (λ (l : List Vertex). Contains ys w ↔ ((v ≡ w) ⊎ Contains l w)) (append-nil xs)
    (subst (λ (l : List Vertex). Contains l w ↔ ((v ≡ w) ⊎ Contains (xs ++ []) w)) (sym is) (put_has xs [] v w))
added_has v (Some next) xs ys (front, back, was, is) w =
    subst (λ (l : List Vertex). Contains ys w ↔ ((v ≡ w) ⊎ Contains l w)) (sym was)
    (subst (λ (l : List Vertex). Contains l w ↔ ((v ≡ w) ⊎ Contains (front ++ next ∷ back) w)) (sym is) (put_has front (next ∷ back) v w))

added_once : (v : Vertex) (next : Option Vertex) (xs ys : List Vertex) → IsAddedAt v next xs ys → ¬ Contains xs v → IsOnce xs → IsOnce ys
added_once v None xs ys is new once =
    subst (λ (l : List Vertex). IsOnce l) (sym is)
    (put_once xs [] v (subst (λ (l : List Vertex). IsOnce l) (sym (append-nil xs)) once) (λ h. new (subst (λ (l : List Vertex). Contains l v) (append-nil xs) h)))
added_once v (Some next) xs ys (front, back, was, is) new once =
    subst (λ (l : List Vertex). IsOnce l) (sym is)
    (put_once front (next ∷ back) v (subst (λ (l : List Vertex). IsOnce l) was once) (λ h. new (subst (λ (l : List Vertex). Contains l v) (sym was) h)))

put_in_has : (v : Vertex) (next : Option Vertex) (xs ys : List Vertex) → IsPutIn v next xs ys → (w : Vertex) → Contains ys w ↔ ((v ≡ w) ⊎ Contains xs w)
put_in_has v next xs ys (inl (there, is)) w = (
  λ h. inr (subst (λ (l : List Vertex). Contains l w) is h),
  λ h. subst (λ (l : List Vertex). Contains l w) (sym is) (elim h [ inl e ↦ subst (λ (z : Vertex). Contains xs z) e there | inr old ↦ old ]),
)
put_in_has v next xs ys (inr (new, added)) w = added_has v next xs ys added w

put_in_once : (v : Vertex) (next : Option Vertex) (xs ys : List Vertex) → IsPutIn v next xs ys → IsOnce xs → IsOnce ys
put_in_once v next xs ys (inl (there, is)) once = subst (λ (l : List Vertex). IsOnce l) (sym is) once
put_in_once v next xs ys (inr (new, added)) once = added_once v next xs ys added new once

-- vertices joined
pub joined_has : (vs xs ys : List Vertex) → IsJoined vs xs ys → (w : Vertex) → Contains ys w ↔ (Contains xs w ⊎ Contains vs w)
joined_has [] xs ys is w = (λ h. inl (subst (λ (l : List Vertex). Contains l w) is h), λ h. elim h [ inl there ↦ subst (λ (l : List Vertex). Contains l w) (sym is) there | inr none ↦ absurd (in_none w none) ])
joined_has (v ∷ vs) xs ys (zs, joined, put) w =
    let one = put_in_has v (slice_get vs 0) zs ys put w in
    let rest = joined_has vs xs zs joined w in (
      λ h. elim (one.0 h) [
        | inl e ↦ inr (subst (λ (z : Vertex). Contains (v ∷ vs) z) e (in_here v vs))
        | inr old ↦ elim (rest.0 old) [ inl x ↦ inl x | inr later ↦ inr (in_later v w vs later) ]
      ],
      λ h. elim h [
        | inl x ↦ one.1 (inr (rest.1 (inl x)))
        | inr there ↦ elim (in_cons v w vs there) [ inl e ↦ one.1 (inl e) | inr later ↦ one.1 (inr (rest.1 (inr later))) ]
      ],
    )

pub joined_once : (vs xs ys : List Vertex) → IsJoined vs xs ys → IsOnce xs → IsOnce ys
joined_once [] xs ys is once = subst (λ (l : List Vertex). IsOnce l) (sym is) once
joined_once (v ∷ vs) xs ys (zs, joined, put) once = put_in_once v (slice_get vs 0) zs ys put (joined_once vs xs zs joined once)

-- vertices that are listed already
joined_listed : (vs xs : List Vertex) → ((w : Vertex) → Contains vs w → Contains xs w) → IsJoined vs xs xs
joined_listed [] xs all = refl
joined_listed (v ∷ vs) xs all = (xs, joined_listed vs xs (λ w h. all w (in_later v w vs h)), inl (all v (in_here v vs), refl))

-- several lists joined
abbrev HasOne : List (List Vertex) → Vertex → Type 0
HasOne ls w = (vs : List Vertex) × Contains ls vs × Contains vs w

all_joined_has : (ls : List (List Vertex)) (xs ys : List Vertex) → AreJoined ls xs ys → (w : Vertex) → Contains ys w ↔ (Contains xs w ⊎ HasOne ls w)
all_joined_has [] xs ys is w = (
  λ h. inl (subst (λ (l : List Vertex). Contains l w) is h),
  λ h. elim h [ inl there ↦ subst (λ (l : List Vertex). Contains l w) (sym is) there | inr none ↦ absurd (in_none none.0 none.1) ],
)
all_joined_has (vs ∷ []) xs ys joined w =
    let one = joined_has vs xs ys joined w in (
      λ h. elim (one.0 h) [ inl x ↦ inl x | inr y ↦ inr (vs, in_here vs [], y) ],
      λ h. elim h [
        | inl x ↦ one.1 (inl x)
        | inr some ↦ elim (in_cons vs some.0 [] some.1) [
          | inl e ↦ one.1 (inr (subst (λ (l : List Vertex). Contains l w) (sym e) some.2))
          | inr none ↦ absurd (in_none some.0 none)
        ]
      ],
    )
all_joined_has (vs ∷ us ∷ ls) xs ys (zs, first, rest) w =
    let one = joined_has vs xs zs first w in
    let more = all_joined_has (us ∷ ls) zs ys rest w in (
      λ h. elim (more.0 h) [
        | inl x ↦ elim (one.0 x) [ inl y ↦ inl y | inr z ↦ inr (vs, in_here vs (us ∷ ls), z) ]
        | inr some ↦ inr (some.0, in_later vs some.0 (us ∷ ls) some.1, some.2)
      ],
      λ h. elim h [
        | inl x ↦ more.1 (inl (one.1 (inl x)))
        | inr some ↦ elim (in_cons vs some.0 (us ∷ ls) some.1) [
          | inl e ↦ more.1 (inl (one.1 (inr (subst (λ (l : List Vertex). Contains l w) (sym e) some.2))))
          | inr later ↦ more.1 (inr (some.0, later, some.2))
        ]
      ],
    )

all_joined_once : (ls : List (List Vertex)) (xs ys : List Vertex) → AreJoined ls xs ys → IsOnce xs → IsOnce ys
all_joined_once [] xs ys is once = subst (λ (l : List Vertex). IsOnce l) (sym is) once
all_joined_once (vs ∷ []) xs ys joined once = joined_once vs xs ys joined once
all_joined_once (vs ∷ us ∷ ls) xs ys (zs, first, rest) once = all_joined_once (us ∷ ls) zs ys rest (joined_once vs xs zs first once)

-- the variant whose parts come first is one of the variants
pub first_within : (base : Tree) (vs : List Tree) (first : Tree) → IsFirstChanged base vs first → Contains vs first
first_within base [] first is = absurd is
first_within base (v ∷ []) first is = subst (λ (t : Tree). Contains (v ∷ []) t) (sym is) (in_here v [])
first_within base (v ∷ u ∷ vs) first (inl (same, later)) = in_later v first (u ∷ vs) (first_within base (u ∷ vs) first later)
first_within base (v ∷ u ∷ vs) first (inr (other, is)) = subst (λ (t : Tree). Contains (v ∷ u ∷ vs) t) (sym is) (in_here v (u ∷ vs))

-- the rank has the parts of base and the variants, and no others
pub rank_has : (base : Tree) (vs : List Tree) (r : List Vertex) → IsRankOf base vs r → (w : Vertex)
    → Contains r w ↔ ((t : Tree) × Contains (base ∷ vs) t × Contains (parts_of t) w)
rank_has base vs r (first, is_first, joined) w =
    let all : List Tree = vs ++ base ∷ [] in
    let joins = all_joined_has (map parts_of all) (parts_of first) r joined w in
    let listed : (t : Tree) → Contains all t → Contains (base ∷ vs) t =
    λ t h. elim (Contains-append_cases vs (base ∷ []) t h) [
      | inl variant ↦ in_later base t vs variant
      | inr rest ↦ elim (in_cons base t [] rest) [ inl e ↦ subst (λ (u : Tree). Contains (base ∷ vs) u) e (in_here base vs) | inr none ↦ absurd (in_none t none) ]
    ] in
    let among : (t : Tree) → Contains (base ∷ vs) t → Contains all t =
    λ t h. elim (in_cons base t vs h) [
      | inl e ↦ subst (λ (u : Tree). Contains all u) e (Contains-append_right vs (base ∷ []) base (in_here base []))
      | inr variant ↦ Contains-append_left vs (base ∷ []) t variant
    ] in (
      λ h. elim (joins.0 h) [
        | inl x ↦ (first, in_later base first vs (first_within base vs first is_first), x)
        | inr some ↦ (let (t, there, is) = map_in parts_of all some.0 some.1 in
            (t, listed t there, subst (λ (l : List Vertex). Contains l w) (sym is) some.2))
      ],
      λ h. joins.1 (inr (parts_of h.0, in_map parts_of all h.0 (among h.0 h.1), h.2)),
    )

-- where the variants are programs, nothing stands twice in it
pub rank_once : (base : Tree) (vs : List Tree) (r : List Vertex) → IsRankOf base vs r → AllByRecursion IsProgram vs → IsOnce r
rank_once base vs r (first, is_first, joined) are =
    all_joined_once (map parts_of (vs ++ base ∷ [])) (parts_of first) r joined
    (parts_once first (All-contains IsProgram vs first (All-from_recursion IsProgram vs are) (first_within base vs first is_first)))

-- the rank of two variants, of which the first isn't base, and where it is
pub rank_from_first : (a b base : Tree) (r : List Vertex) → ¬ (a ≡ base) → AreJoined (parts_of b ∷ parts_of base ∷ []) (parts_of a) r → IsRank a b base r
rank_from_first a b base r other joined = (a, inr (other, refl), (parts_of a, joined_listed (parts_of a) (parts_of a) (λ w h. h), joined))

pub rank_from_second : (a b base : Tree) (r : List Vertex) → a ≡ base → AreJoined (parts_of a ∷ parts_of base ∷ []) (parts_of b) r → IsRank a b base r
rank_from_second a b base r same (zs, first, rest) =
    (b, inl (same, refl), (zs, first, (zs, joined_listed (parts_of b) zs (λ w h. (joined_has (parts_of a) (parts_of b) zs first w).1 (inl h)), rest)))
