-- The points that a search comes to, one more at a time.
use Rattle.std.proofs.Common.{◌≡◌, ℕ, ◌<◌, Bool, false, true, inl, inr, Option, Some, None, List, [], ◌∷◌, ◌++◌, map, length, set, get_or, Contains, refl, sym, ap, subst, ◌∙◌}
use Rattle.std.proofs.lemmas.List.{append-nil, append_assoc, map_push, get_or-map}
use Rattle.std.proofs.lemmas.List.Elements.{Contains-append_left, Contains-push_cases}
use Rattle.hpr_search.specs.Marks.{IsRowOf, Visited}
use Rattle.hpr_search.proofs.Marked.{visited_new}
use Rattle.hpr_search.proofs.Turns.{Searching}
use Rattle.hpr_graph.proofs.Lists.{in_none, in_here, in_later}
use Rattle.hpr_impact.specs.declared.search.Visit.{Visit}
use Rattle.hpr_impact.specs.Private.Search.{AreCome, IsTrail, none, start, step, come_to, points_of}

point_come : (from : Option Visit) (p : ℕ) → (come_to from p).point ≡ p
point_come None p = refl
point_come (Some v) p = refl

pub points_push : (from : Option Visit) (visits : List Visit) (p : ℕ) → points_of (visits ++ come_to from p ∷ []) ≡ points_of visits ++ p ∷ []
points_push from visits p = map_push (λ (v : Visit). v.point) visits (come_to from p) ∙ ap (λ (q : ℕ). points_of visits ++ q ∷ []) (point_come from p)

-- what isn't marked isn't listed
pub not_listed : (marks : List Bool) (order : List ℕ) (q : ℕ) → IsRowOf marks order → get_or marks q false ≡ false → ¬ Contains order q
not_listed marks order q row new h = let m = row.marked q h in let both : true ≡ false = sym m ∙ new in absurd cc

-- one point more, which wasn't marked
pub visited_push : (from : Option Visit) (done : List ℕ) (old now new : List Visit) (n q : ℕ) (marks marks' : List Bool) → Visited (points_of old) done n marks (points_of now) → q < n
    → get_or marks q false ≡ false → marks' ≡ set marks q true → new ≡ now ++ come_to from q ∷ [] → Visited (points_of old) (done ++ q ∷ []) n marks' (points_of new)
visited_push from done old now new n q marks marks' v within fresh marks_are is =
    let order : points_of new ≡ points_of now ++ q ∷ [] = ap points_of is ∙ points_push from now q in
    rw (marks_are, order) (visited_new (points_of old) done n marks (points_of now) q v within fresh)

-- it isn't among the old ones either
pub fresh_among : (done : List ℕ) (old now : List Visit) (n q : ℕ) (marks : List Bool) → Visited (points_of old) done n marks (points_of now) → get_or marks q false ≡ false → ¬ Contains (points_of old) q
fresh_among done old now n q marks v fresh h =
    not_listed marks (points_of now) q v.row fresh (subst (λ (o : List ℕ). Contains o q) (sym v.kept) (Contains-append_left (points_of old) v.more q h))

pub come_more : (from : Option Visit) (ps : List ℕ) (old now : List Visit) (q : ℕ) → AreCome from ps old now → Contains ps q → ¬ Contains (points_of old) q → AreCome from ps old (now ++ come_to from q ∷ [])
come_more from ps old now q (more, is, each) among new = (
  more ++ q ∷ [],
  ap (λ (vs : List Visit). vs ++ come_to from q ∷ []) is ∙ append_assoc old (map (come_to from) more) (come_to from q ∷ [])
      ∙ ap (λ (vs : List Visit). old ++ vs) (sym (map_push (come_to from) more q)),
  λ p h. elim (Contains-push_cases more q p h) [
    | inl was ↦ each p was
    | inr e ↦ subst (λ (x : ℕ). Contains ps x × ¬ Contains (points_of old) x) e (among, new)
  ],
)

module _ (steps : ℕ → List ℕ) (starts : List ℕ) where
  starts_trail : (more : List ℕ) (visits : List Visit) → IsTrail steps starts visits → ((p : ℕ) → Contains more p → Contains starts p) → IsTrail steps starts (visits ++ map (come_to None) more)
  starts_trail [] visits t all = subst (IsTrail steps starts) (sym (append-nil visits)) t
  starts_trail (p ∷ more) visits t all =
      subst (IsTrail steps starts) (append_assoc visits (come_to None p ∷ []) (map (come_to None) more))
      (starts_trail more (visits ++ come_to None p ∷ []) (start t (all p (in_here p more))) (λ q h. all q (in_later p q more h)))

  steps_trail : (v : Visit) (more : List ℕ) (visits : List Visit) → IsTrail steps starts visits → Contains visits v → ((p : ℕ) → Contains more p → Contains (steps v.point) p × ¬ Contains starts p)
      → IsTrail steps starts (visits ++ map (come_to (Some v)) more)
  steps_trail v [] visits t has all = subst (IsTrail steps starts) (sym (append-nil visits)) t
  steps_trail v (p ∷ more) visits t has all =
      let here = all p (in_here p more) in
      subst (IsTrail steps starts) (append_assoc visits (come_to (Some v) p ∷ []) (map (come_to (Some v)) more))
      (steps_trail v more (visits ++ come_to (Some v) p ∷ []) (step t has here.0 here.1) (Contains-append_left visits (come_to (Some v) p ∷ []) v has) (λ q h. all q (in_later p q more h)))

  -- the starts
  pub trail_begun : (visits : List Visit) → AreCome None starts [] visits → IsTrail steps starts visits
  trail_begun visits (more, is, each) = subst (IsTrail steps starts) (sym is) (starts_trail more [] none (λ p h. (each p h).0))

  -- the steps of one of the points
  pub trail_more : (v : Visit) (old new : List Visit) → IsTrail steps starts old → Contains old v → ((p : ℕ) → Contains starts p → Contains (points_of old) p)
      → AreCome (Some v) (steps v.point) old new → IsTrail steps starts new
  trail_more v old new t has begun (more, is, each) =
      subst (IsTrail steps starts) (sym is) (steps_trail v more old t has (λ p h. ((each p h).0, λ s. (each p h).1 (begun p s))))

-- the points by number
pub point_at : (visits : List Visit) (at : ℕ) (v : Visit) → at < length visits → v ≡ get_or visits at v → v.point ≡ get_or (points_of visits) at v.point
point_at visits at v below is = ap (λ (w : Visit). w.point) is ∙ sym (get_or-map (λ (w : Visit). w.point) visits at v v.point below)

-- a search between two of its turns
pub record Trailing (steps : ℕ → List ℕ) (starts : List ℕ) (n at : ℕ) (marks : List Bool) (visits : List Visit) : Type 0 where
  pub searching : Searching steps starts n at marks (points_of visits)
  pub trail : IsTrail steps starts visits
