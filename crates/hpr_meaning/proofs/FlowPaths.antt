-- An undisturbed path gives a flow edge: of one kind or the other, since it is decided whether a loop is around both ends.
use Rattle.std.proofs.Common.{◌≡◌, ℕ, List, [], ◌∷◌, ◌⊎◌, Option, Some, None, refl, subst, inl, inr}
use Rattle.hpr_terms.specs.declared.tag.Tag.{Tag}
use Rattle.hpr_syntax.specs.declared.rows.Content.{Content}
use Rattle.hpr_syntax.specs.declared.rows.Content.TheVariants.{While}
use Rattle.hpr_syntax.specs.Body.{Body, done, action, branch, loop}
use Rattle.hpr_syntax.specs.Tree.{Tree}
use Rattle.hpr_syntax.specs.Skeleton.{Skeleton, nil, act, fork, round, Point, at, StandsIn, skeleton}
use Rattle.hpr_syntax.specs.Pairs.{FollowsIn}
use Rattle.hpr_syntax.specs.Places.{EnclosesBoth}
use Rattle.hpr_syntax.specs.Paths.{Path, DefinesAt}
use Rattle.hpr_syntax.specs.Nests.{Says}
use Rattle.hpr_graph.specs.declared.vertex.Vertex.{Vertex}
use Rattle.hpr_graph.specs.ProgramGraph.{HasFlow, Defines, Reads}
use Rattle.hpr_paths.proofs.Among.{Among, here, there, among_cons, among_none, contains_among}
use Rattle.hpr_paths.proofs.SkeletonTags.{tag_discrete}
use Rattle.hpr_paths.proofs.Ahead.{stands_in?, or?}
use Rattle.hpr_paths.proofs.Programs.{at_end, avoids_common, path_outside}
use Rattle.hpr_graph.specs.declared.vertex.Vertex.TheVariants.{Part}

three? : {A B C : Type 0} → Dec A → Dec B → Dec C → Dec (A × B × C)
three? (yes a) (yes b) (yes c) = yes (a, b, c)
three? (no n) d e = no (λ h. n h.0)
three? (yes a) (no n) e = no (λ h. n h.1)
three? (yes a) (yes b) (no n) = no (λ h. n h.2)

inside? : (t : Tag) (b : Skeleton) (d : Point) → Dec (StandsIn (round t b nil) d) → Dec ((d ≡ at t) ⊎ StandsIn b d)
inside? t b d (yes h) = yes (go h)
  where
    go : StandsIn (round t b nil) d → (d ≡ at t) ⊎ StandsIn b d
    go (inl e) = inl e
    go (inr (inl i)) = inr i
    go (inr (inr i)) = absurd i
inside? t b d (no n) = no go
  where
    go : (d ≡ at t) ⊎ StandsIn b d → ⊥
    go (inl e) = n (inl e)
    go (inr i) = n (inr (inl i))

encloses? : (B : Skeleton) (d u : Point) (w : Tag) → Dec (EnclosesBoth B d u w)
encloses? nil d u w = no (λ h. h)
encloses? (act t k) d u w = encloses? k d u w
encloses? (fork t b c k) d u w = or? (encloses? b d u w) (or? (encloses? c d u w) (encloses? k d u w))
encloses? (round t b k) d u w =
    or? (three? (tag_discrete w t) (inside? t b d (stands_in? (round t b nil) d)) (inside? t b u (stands_in? (round t b nil) u))) (or? (encloses? b d u w) (encloses? k d u w))

-- a loop around two points says something
pub encloser_says : (B : Body) (d u : Point) (w : Tag) → EnclosesBoth (skeleton B) d u w → (c : Content) × Says B w c
encloser_says done d u w h = absurd h
encloser_says (action t action_ k) d u w h = let g = encloser_says k d u w h in (g.0, inr g.1)
encloser_says (branch t e a b k) d u w (inl h) = let g = encloser_says a d u w h in (g.0, inr (inl g.1))
encloser_says (branch t e a b k) d u w (inr (inl h)) = let g = encloser_says b d u w h in (g.0, inr (inr (inl g.1)))
encloser_says (branch t e a b k) d u w (inr (inr h)) = let g = encloser_says k d u w h in (g.0, inr (inr (inr g.1)))
encloser_says (loop t e b k) d u w (inl h) = (While e, inl (h.0, refl))
encloser_says (loop t e b k) d u w (inr (inl h)) = let g = encloser_says b d u w h in (g.0, inr (inl g.1))
encloser_says (loop t e b k) d u w (inr (inr h)) = let g = encloser_says k d u w h in (g.0, inr (inr g.1))

-- some mark is a loop around both, or none
abbrev IsMarked : Skeleton → Point → Point → List (Option Tag) → Type 0
IsMarked B d u ms = ((w : Tag) × Among (Some w) ms × EnclosesBoth B d u w) ⊎ ((w : Tag) → Among (Some w) ms → ¬ EnclosesBoth B d u w)

abbrev FirstOr : Option Tag → Option Tag → List (Option Tag) → Type 0
FirstOr x m ms = (m ≡ x) ⊎ Among x ms

no_tag : {A : Type 0} {w : Tag} → None ≡ Some w → A
no_tag e = absurd cc

same_mark : {w v : Tag} → Some w ≡ Some v → w ≡ v
same_mark e = cc

marked_none : (B : Skeleton) (d u : Point) (ms : List (Option Tag)) → IsMarked B d u ms → IsMarked B d u (None ∷ ms)
marked_none B d u ms (inl h) = inl (h.0, there h.1, h.2)
marked_none B d u ms (inr n) = inr (λ w m. go w (among_cons m))
  where
    go : (w : Tag) → FirstOr (Some w) None ms → ¬ EnclosesBoth B d u w
    go w (inl e) = no_tag e
    go w (inr h) = n w h

marked_some : (B : Skeleton) (d u : Point) (v : Tag) (ms : List (Option Tag)) → Dec (EnclosesBoth B d u v) → IsMarked B d u ms → IsMarked B d u (Some v ∷ ms)
marked_some B d u v ms (yes a) r = inl (v, here, a)
marked_some B d u v ms (no n) (inl h) = inl (h.0, there h.1, h.2)
marked_some B d u v ms (no n) (inr m) = inr (λ w i. go w (among_cons i))
  where
    go : (w : Tag) → FirstOr (Some w) (Some v) ms → ¬ EnclosesBoth B d u w
    go w (inl e) = subst (λ z. ¬ EnclosesBoth B d u z) (same_mark e) n
    go w (inr h) = m w h

marked : (B : Skeleton) (d u : Point) (ms : List (Option Tag)) → IsMarked B d u ms
marked B d u [] = inr (λ w m. absurd (among_none (Some w) m))
marked B d u (None ∷ ms) = marked_none B d u ms (marked B d u ms)
marked B d u (Some v ∷ ms) = marked_some B d u v ms (encloses? B d u v) (marked B d u ms)

pub flow_of : (p : Tree) (x : List ℕ) (d u : Point) (from to : Vertex) (ms : List (Option Tag)) → Defines p x from d → Reads p x to u
    → Path (FollowsIn (skeleton p.body) at_end) (DefinesAt p.body x) d u ms → HasFlow p x from to
flow_of p x d u from to ms s t q = go (marked (skeleton p.body) d u ms)
  where
    go : IsMarked (skeleton p.body) d u ms → HasFlow p x from to
    go (inr n) = inl (d, u, ms, (s, t, path_outside p.body q), avoids_common p.body d u ms n)
    go (inl (w, m, a)) = let g = encloser_says p.body d u w a in
        inr (Part w g.0, (d, u, ms, w, g.0, (s, t, path_outside p.body q), refl, g.1, a, contains_among (Some w) ms m))
