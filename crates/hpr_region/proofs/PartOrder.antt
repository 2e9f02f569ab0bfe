-- The parts of a program as vertices in preorder: they are what its parts say, and what stands before what in the list stands to the left.
use Rattle.std.proofs.Common.{◌≡◌, ℕ, ◌+◌, true, false, ◌⊎◌, inl, inr, Some, None, List, [], ◌∷◌, ◌++◌, map, Contains, refl, sym, ap, ap₂, ◌∙◌, subst, append_assoc}
use Rattle.std.proofs.lemmas.List.{map-append}
use Rattle.std.proofs.lemmas.List.Elements.{Contains-append_left, Contains-append_right, Contains-append_cases}
use Rattle.hpr_terms.specs.declared.tag.Tag.{Tag}
use Rattle.hpr_syntax.specs.declared.rows.Row.{Row}
use Rattle.hpr_syntax.specs.declared.rows.Content.{Content}
use Rattle.hpr_syntax.specs.declared.rows.Content.TheVariants.{If, While}
use Rattle.hpr_syntax.specs.Body.{Body, done, action, branch, loop}
use Rattle.hpr_syntax.specs.Nests.{Says}
use Rattle.hpr_syntax.specs.Places.{StandsLeft}
use Rattle.hpr_syntax.specs.Rows.{Parent, content_by, rows_of}
use Rattle.hpr_syntax.specs.Skeleton.{at, StandsIn, skeleton}
use Rattle.hpr_syntax.specs.Tree.{Tree}
use Rattle.hpr_graph.specs.declared.vertex.Vertex.{Vertex}
use Rattle.hpr_graph.specs.declared.vertex.Vertex.TheVariants.{Part}
use Rattle.hpr_graph.specs.Rank.{parts_of}
use Rattle.hpr_graph.proofs.Lists.{in_none, in_cons, in_here, in_later}
use Rattle.hpr_paths.proofs.Says.{says_stands}

abbrev pub vertex_of : Row → Vertex
vertex_of row = Part row.tag row.content

-- the parts of a block as vertices
abbrev pub parts_in : Body → List Vertex
parts_in done = []
parts_in (action t d rest) = Part t (content_by d) ∷ parts_in rest
parts_in (branch t e a b rest) = Part t (If e) ∷ (parts_in a ++ (parts_in b ++ parts_in rest))
parts_in (loop t e b rest) = Part t (While e) ∷ (parts_in b ++ parts_in rest)

pub rows_parts : (p : Parent) (i : ℕ) (b : Body) → map vertex_of (rows_of p i b) ≡ parts_in b
rows_parts p i done = refl
rows_parts p i (action t d rest) = ap (λ (r : List Vertex). Part t (content_by d) ∷ r) (rows_parts p (i + 1) rest)
rows_parts p i (branch t e a b rest) =
    let ra : List Row = rows_of (Some (t, true)) 0 a in
    let rb : List Row = rows_of (Some (t, false)) 0 b in
    let rc : List Row = rows_of p (i + 1) rest in
    ap (λ (r : List Vertex). Part t (If e) ∷ r)
    (map-append vertex_of (ra ++ rb) rc
    ∙ ap₂ (λ (r s : List Vertex). r ++ s)
    (map-append vertex_of ra rb ∙ ap₂ (λ (r s : List Vertex). r ++ s) (rows_parts (Some (t, true)) 0 a) (rows_parts (Some (t, false)) 0 b))
    (rows_parts p (i + 1) rest)
    ∙ append_assoc (parts_in a) (parts_in b) (parts_in rest))
rows_parts p i (loop t e b rest) =
    let rb : List Row = rows_of (Some (t, true)) 0 b in
    let rc : List Row = rows_of p (i + 1) rest in
    ap (λ (r : List Vertex). Part t (While e) ∷ r)
    (map-append vertex_of rb rc ∙ ap₂ (λ (r s : List Vertex). r ++ s) (rows_parts (Some (t, true)) 0 b) (rows_parts p (i + 1) rest))

-- a part is what a part of the program says
abbrev pub SaysIn : Body → Vertex → Type 0
SaysIn b v = (t : Tag) × (c : Content) × (v ≡ Part t c) × Says b t c

says_of : (b : Body) (v : Vertex) → Contains (parts_in b) v → SaysIn b v
says_of done v h = absurd (in_none v h)
says_of (action t d rest) v h = elim (in_cons (Part t (content_by d)) v (parts_in rest) h) [
  | inl same ↦ (t, content_by d, sym same, inl (refl, refl))
  | inr later ↦ (let (u, c, is, says) = says_of rest v later in (u, c, is, inr says))
]
says_of (branch t e a b rest) v h = elim (in_cons (Part t (If e)) v (parts_in a ++ (parts_in b ++ parts_in rest)) h) [
  | inl same ↦ (t, If e, sym same, inl (refl, refl))
  | inr later ↦ (elim (Contains-append_cases (parts_in a) (parts_in b ++ parts_in rest) v later) [
    | inl in_a ↦ (let (u, c, is, says) = says_of a v in_a in (u, c, is, inr (inl says)))
    | inr more ↦ (elim (Contains-append_cases (parts_in b) (parts_in rest) v more) [
      | inl in_b ↦ (let (u, c, is, says) = says_of b v in_b in (u, c, is, inr (inr (inl says))))
      | inr last ↦ (let (u, c, is, says) = says_of rest v last in (u, c, is, inr (inr (inr says))))
    ])
  ])
]
says_of (loop t e b rest) v h = elim (in_cons (Part t (While e)) v (parts_in b ++ parts_in rest) h) [
  | inl same ↦ (t, While e, sym same, inl (refl, refl))
  | inr later ↦ (elim (Contains-append_cases (parts_in b) (parts_in rest) v later) [
    | inl in_b ↦ (let (u, c, is, says) = says_of b v in_b in (u, c, is, inr (inl says)))
    | inr last ↦ (let (u, c, is, says) = says_of rest v last in (u, c, is, inr (inr says)))
  ])
]

here : (v : Tag) (t : Tag) (c d : Content) (rest : List Vertex) → v ≡ t → c ≡ d → Contains (Part t d ∷ rest) (Part v c)
here v t c d rest e f = subst (λ (w : Vertex). Contains (Part t d ∷ rest) w) (sym (ap₂ (λ (u : Tag) (k : Content). Part u k) e f)) (in_here (Part t d) rest)

pub of_says : (b : Body) (v : Tag) (c : Content) → Says b v c → Contains (parts_in b) (Part v c)
of_says done v c h = absurd h
of_says (action t d rest) v c (inl (same, is)) = here v t c (content_by d) (parts_in rest) same is
of_says (action t d rest) v c (inr h) = in_later (Part t (content_by d)) (Part v c) (parts_in rest) (of_says rest v c h)
of_says (branch t e a b rest) v c (inl (same, is)) = here v t c (If e) (parts_in a ++ (parts_in b ++ parts_in rest)) same is
of_says (branch t e a b rest) v c (inr h) =
    in_later (Part t (If e)) (Part v c) (parts_in a ++ (parts_in b ++ parts_in rest)) (elim h [
      | inl x ↦ Contains-append_left (parts_in a) (parts_in b ++ parts_in rest) (Part v c) (of_says a v c x)
      | inr k ↦ Contains-append_right (parts_in a) (parts_in b ++ parts_in rest) (Part v c) (elim k [
        | inl x ↦ Contains-append_left (parts_in b) (parts_in rest) (Part v c) (of_says b v c x)
        | inr x ↦ Contains-append_right (parts_in b) (parts_in rest) (Part v c) (of_says rest v c x)
      ])
    ])
of_says (loop t e b rest) v c (inl (same, is)) = here v t c (While e) (parts_in b ++ parts_in rest) same is
of_says (loop t e b rest) v c (inr h) =
    in_later (Part t (While e)) (Part v c) (parts_in b ++ parts_in rest) (elim h [
      | inl x ↦ Contains-append_left (parts_in b) (parts_in rest) (Part v c) (of_says b v c x)
      | inr x ↦ Contains-append_right (parts_in b) (parts_in rest) (Part v c) (of_says rest v c x)
    ])

pub part_says : (p : Tree) (v : Vertex) → Contains (parts_of p) v → SaysIn p.body v
part_says p v h = says_of p.body v (subst (λ (vs : List Vertex). Contains vs v) (rows_parts None 0 p.body) h)

pub says_part : (p : Tree) (t : Tag) (c : Content) → Says p.body t c → Contains (parts_of p) (Part t c)
says_part p t c h = subst (λ (vs : List Vertex). Contains vs (Part t c)) (sym (rows_parts None 0 p.body)) (of_says p.body t c h)

-- v stands in the list before w
abbrev pub StandsBy : List Vertex → Vertex → Vertex → Type 0
StandsBy [] v w = ⊥
StandsBy (x ∷ xs) v w = ((v ≡ x) × Contains xs w) ⊎ StandsBy xs v w

by_cases : (xs ys : List Vertex) (v w : Vertex) → StandsBy (xs ++ ys) v w → StandsBy xs v w ⊎ ((Contains xs v × Contains ys w) ⊎ StandsBy ys v w)
by_cases [] ys v w h = inr (inr h)
by_cases (x ∷ xs) ys v w (inl h) = elim (Contains-append_cases xs ys w h.1) [
  | inl here_ ↦ inl (inl (h.0, here_))
  | inr there ↦ inr (inl (subst (λ (z : Vertex). Contains (x ∷ xs) z) (sym h.0) (in_here x xs), there))
]
by_cases (x ∷ xs) ys v w (inr h) = elim (by_cases xs ys v w h) [
  | inl g ↦ inl (inr g)
  | inr g ↦ (elim g [
    | inl k ↦ inr (inl (in_later x v xs k.0, k.1))
    | inr k ↦ inr (inr k)
  ])
]

pub by_split : (xs ys : List Vertex) (v w : Vertex) → Contains xs v → Contains ys w → StandsBy (xs ++ ys) v w
by_split [] ys v w h k = absurd (in_none v h)
by_split (x ∷ xs) ys v w h k = elim (in_cons x v xs h) [
  | inl e ↦ inl (sym e, Contains-append_right xs ys w k)
  | inr later ↦ inr (by_split xs ys v w later k)
]

pub by_first : (xs ys : List Vertex) (v w : Vertex) → StandsBy xs v w → StandsBy (xs ++ ys) v w
by_first [] ys v w h = absurd h
by_first (x ∷ xs) ys v w (inl h) = inl (h.0, Contains-append_left xs ys w h.1)
by_first (x ∷ xs) ys v w (inr h) = inr (by_first xs ys v w h)

pub by_second : (xs ys : List Vertex) (v w : Vertex) → StandsBy ys v w → StandsBy (xs ++ ys) v w
by_second [] ys v w h = h
by_second (x ∷ xs) ys v w h = inr (by_second xs ys v w h)

abbrev IsLeftIn : Body → Vertex → Vertex → Type 0
IsLeftIn b v w = (s : Tag) × (c : Content) × (t : Tag) × (d : Content) × (v ≡ Part s c) × (w ≡ Part t d) × StandsLeft (skeleton b) (at s) (at t)

within : (b B : Body) (v w : Vertex) → ((s t : Tag) → StandsLeft (skeleton b) (at s) (at t) → StandsLeft (skeleton B) (at s) (at t)) → IsLeftIn b v w → IsLeftIn B v w
within b B v w f (s, c, t, d, e, e', left) = (s, c, t, d, e, e', f s t left)

across : (b b' B : Body) (v w : Vertex) → ((s t : Tag) → StandsIn (skeleton b) (at s) → StandsIn (skeleton b') (at t) → StandsLeft (skeleton B) (at s) (at t)) → Contains (parts_in b) v
    → Contains (parts_in b') w → IsLeftIn B v w
across b b' B v w f h k =
    let (s, c, e, says) = says_of b v h in
    let (t, d, e', says') = says_of b' w k in
    (s, c, t, d, e, e', f s t (says_stands b s c says) (says_stands b' t d says'))

headed : (b B : Body) (h : Tag) (k : Content) (v w : Vertex) → ((t : Tag) → StandsIn (skeleton b) (at t) → StandsLeft (skeleton B) (at h) (at t)) → v ≡ Part h k → Contains (parts_in b) w
    → IsLeftIn B v w
headed b B h k v w f e i = let (t, d, e', says) = says_of b w i in (h, k, t, d, e, e', f t (says_stands b t d says))

left_of_by : (B : Body) (v w : Vertex) → StandsBy (parts_in B) v w → IsLeftIn B v w
left_of_by done v w h = absurd h
left_of_by (action t e rest) v w (inl h) = headed rest (action t e rest) t (content_by e) v w (λ u i. inl (refl, i)) h.0 h.1
left_of_by (action t e rest) v w (inr h) = within rest (action t e rest) v w (λ s u l. inr l) (left_of_by rest v w h)
left_of_by (branch t e a b rest) v w (inl h) = elim (Contains-append_cases (parts_in a) (parts_in b ++ parts_in rest) w h.1) [
  | inl i ↦ headed a (branch t e a b rest) t (If e) v w (λ u j. inl (refl, inl j)) h.0 i
  | inr i ↦ (elim (Contains-append_cases (parts_in b) (parts_in rest) w i) [
    | inl j ↦ headed b (branch t e a b rest) t (If e) v w (λ u k. inl (refl, inr (inl k))) h.0 j
    | inr j ↦ headed rest (branch t e a b rest) t (If e) v w (λ u k. inl (refl, inr (inr k))) h.0 j
  ])
]
left_of_by (branch t e a b rest) v w (inr h) = elim (by_cases (parts_in a) (parts_in b ++ parts_in rest) v w h) [
  | inl g ↦ within a (branch t e a b rest) v w (λ s u l. inr (inr (inr (inl l)))) (left_of_by a v w g)
  | inr g ↦ (elim g [
    | inl k ↦ (elim (Contains-append_cases (parts_in b) (parts_in rest) w k.1) [
      | inl j ↦ across a b (branch t e a b rest) v w (λ s u i j_. inr (inl (i, inl j_))) k.0 j
      | inr j ↦ across a rest (branch t e a b rest) v w (λ s u i j_. inr (inl (i, inr j_))) k.0 j
    ])
    | inr k ↦ (elim (by_cases (parts_in b) (parts_in rest) v w k) [
      | inl l ↦ within b (branch t e a b rest) v w (λ s u l_. inr (inr (inr (inr (inl l_))))) (left_of_by b v w l)
      | inr l ↦ (elim l [
        | inl m ↦ across b rest (branch t e a b rest) v w (λ s u i j_. inr (inr (inl (i, j_)))) m.0 m.1
        | inr m ↦ within rest (branch t e a b rest) v w (λ s u l_. inr (inr (inr (inr (inr l_))))) (left_of_by rest v w m)
      ])
    ])
  ])
]
left_of_by (loop t e b rest) v w (inl h) = elim (Contains-append_cases (parts_in b) (parts_in rest) w h.1) [
  | inl j ↦ headed b (loop t e b rest) t (While e) v w (λ u k. inl (refl, inl k)) h.0 j
  | inr j ↦ headed rest (loop t e b rest) t (While e) v w (λ u k. inl (refl, inr k)) h.0 j
]
left_of_by (loop t e b rest) v w (inr h) = elim (by_cases (parts_in b) (parts_in rest) v w h) [
  | inl l ↦ within b (loop t e b rest) v w (λ s u l_. inr (inr (inl l_))) (left_of_by b v w l)
  | inr l ↦ (elim l [
    | inl m ↦ across b rest (loop t e b rest) v w (λ s u i j_. inr (inl (i, j_))) m.0 m.1
    | inr m ↦ within rest (loop t e b rest) v w (λ s u l_. inr (inr (inr l_))) (left_of_by rest v w m)
  ])
]

abbrev tag_or : Tag → Vertex → Tag
tag_or z (Part t c) = t
tag_or z _ = z

pub same_tags : {s t : Tag} {c d : Content} → Part s c ≡ Part t d → s ≡ t
same_tags {s = s} e = ap (λ (v : Vertex). tag_or s v) e

-- of two parts the one before the other in the list stands to the left
pub left_by_list : (p : Tree) (s t : Tag) (c d : Content) → StandsBy (parts_of p) (Part s c) (Part t d) → StandsLeft (skeleton p.body) (at s) (at t)
left_by_list p s t c d h =
    let (u, k, v, l, e, e', left) = left_of_by p.body (Part s c) (Part t d) (subst (λ (vs : List Vertex). StandsBy vs (Part s c) (Part t d)) (rows_parts None 0 p.body) h) in
    subst (λ (z : Tag). StandsLeft (skeleton p.body) (at z) (at t)) (sym (same_tags e)) (subst (λ (z : Tag). StandsLeft (skeleton p.body) (at u) (at z)) (sym (same_tags e')) left)
