-- Nothing stands twice.
use Rattle.std.proofs.Common.{◌≡◌, ℕ, ◌+◌, ◌<◌, Some, List, [], ◌∷◌, ◌++◌, map, length, length-take, get_or, take, Contains, sym, ap, ◌∙◌, subst, arith}
use Rattle.std.proofs.lemmas.Option.{slice_get_within}
use Rattle.std.proofs.lemmas.List.{get_or-take, map_push, take_more}
use Rattle.hpr_terms.proofs.Facts.{contains_at, get_map}
use Rattle.hpr_paths.specs.Spots.{Spot, nest_at}
use Rattle.hpr_paths.specs.Successors.{AreSpots}
use Rattle.hpr_graph.specs.Graphs.{IsOnce}
use Rattle.hpr_graph.proofs.Lists.{once_push}

-- no loop stands twice in a nest
pub nest_once : (spots : List Spot) (p : ℕ) → AreSpots spots → IsOnce (nest_at spots p)
nest_once spots p are i j w a b =
    let nest : List ℕ = nest_at spots p in
    let same : take (i + 1) nest ≡ take (j + 1) nest = sym (are.chain p i w a) ∙ are.chain p j w b in
    omega (arith, ap length same, length-take (i + 1) nest, length-take (j + 1) nest, slice_get_within nest i w a, slice_get_within nest j w b)

pub once_after : {X : Type 0} (xs xs' : List X) (x : X) → IsOnce xs → ¬ Contains xs x → xs' ≡ xs ++ x ∷ [] → IsOnce xs'
once_after {X} xs xs' x once new is = subst (λ (ys : List X). IsOnce ys) (sym is) (once_push xs x once new)

pub taken_among : {X : Type 0} (xs : List X) (k : ℕ) (x : X) → Contains (take k xs) x → Contains xs x
taken_among xs k x (i, l, e) =
    let low : i < k = omega (arith, l, length-take k xs) in
    let within : i < length xs = omega (arith, l, length-take k xs) in
    (i, within, sym (get_or-take k xs i x low) ∙ e)

-- a list of different things about different items
pub once_map : {X Y : Type 0} (f : X → Y) (xs : List X) → IsOnce xs → ((x y : X) → Contains xs x → Contains xs y → f x ≡ f y → x ≡ y) → IsOnce (map f xs)
once_map {X} f xs once one i j y a b =
    let p = get_map f xs i y a in
    let q = get_map f xs j y b in
    let same : p.0 ≡ q.0 = one p.0 q.0 (contains_at xs i p.0 p.1) (contains_at xs j q.0 q.1) (p.2 ∙ sym q.2) in
    once i j q.0 (p.1 ∙ ap (λ (x : X). Some x) same) q.1

-- the images of one item more
pub map_more : {X Y : Type 0} (f : X → Y) (xs : List X) (k : ℕ) (d : X) (old new : List Y) → k < length xs → old ≡ map f (take k xs) → new ≡ old ++ f (get_or xs k d) ∷ [] → new ≡ map f (take (k + 1) xs)
map_more {X} {Y} f xs k d old new l was items =
    items ∙ ap (λ (ys : List Y). ys ++ f (get_or xs k d) ∷ []) was ∙ sym (map_push f (take k xs) (get_or xs k d)) ∙ ap (map f) (sym (take_more xs k d l))
