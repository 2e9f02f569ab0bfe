-- What a part says, and how it stands, is one thing where no tag stands twice; and only acts define names.
use Rattle.std.proofs.Common.{◌≡◌, ℕ, true, false, List, [], ◌∷◌, ◌++◌, Some, None, refl, ap, sym, subst, ◌∙◌, inl, inr}
use Rattle.hpr_terms.specs.declared.tag.Tag.{Tag}
use Rattle.hpr_syntax.specs.declared.rows.Content.{Content}
use Rattle.hpr_syntax.specs.declared.rows.Content.TheVariants.{If, While}
use Rattle.hpr_syntax.specs.Rows.{Parent, assigned}
use Rattle.hpr_syntax.specs.Body.{Body, done, action, branch, loop}
use Rattle.hpr_syntax.specs.Skeleton.{at, StandsIn, Apart, Distinct, skeleton}
use Rattle.hpr_syntax.specs.Nests.{Standing, StandsAs, Says}
use Rattle.hpr_syntax.specs.Paths.{DefinesAt}
use Rattle.hpr_paths.proofs.SkeletonTags.{same_at}
use Rattle.hpr_paths.proofs.DirectWays.{OnlyActsStop}

pub standing_in : (B : Body) (nest : List Tag) (up : Parent) (v : Tag) (r : Standing) → StandsAs nest up B v r → StandsIn (skeleton B) (at v)
standing_in done nest up v r h = h
standing_in (action t d rest) nest up v r (inl h) = inl (ap at h.0)
standing_in (action t d rest) nest up v r (inr h) = inr (standing_in rest nest up v r h)
standing_in (branch t e a b rest) nest up v r (inl h) = inl (ap at h.0)
standing_in (branch t e a b rest) nest up v r (inr (inl h)) = inr (inl (standing_in a nest (Some (t, true)) v r h))
standing_in (branch t e a b rest) nest up v r (inr (inr (inl h))) = inr (inr (inl (standing_in b nest (Some (t, false)) v r h)))
standing_in (branch t e a b rest) nest up v r (inr (inr (inr h))) = inr (inr (inr (standing_in rest nest up v r h)))
standing_in (loop t e b rest) nest up v r (inl h) = inl (ap at h.0)
standing_in (loop t e b rest) nest up v r (inr (inl h)) = inr (inl (standing_in b (nest ++ (t ∷ [])) (Some (t, true)) v r h))
standing_in (loop t e b rest) nest up v r (inr (inr h)) = inr (inr (standing_in rest nest up v r h))

pub says_stands : (B : Body) (t : Tag) (c : Content) → Says B t c → StandsIn (skeleton B) (at t)
says_stands done t c h = h
says_stands (action u d k) t c (inl h) = inl (ap at h.0)
says_stands (action u d k) t c (inr h) = inr (says_stands k t c h)
says_stands (branch u e a b k) t c (inl h) = inl (ap at h.0)
says_stands (branch u e a b k) t c (inr (inl h)) = inr (inl (says_stands a t c h))
says_stands (branch u e a b k) t c (inr (inr (inl h))) = inr (inr (inl (says_stands b t c h)))
says_stands (branch u e a b k) t c (inr (inr (inr h))) = inr (inr (inr (says_stands k t c h)))
says_stands (loop u e b k) t c (inl h) = inl (ap at h.0)
says_stands (loop u e b k) t c (inr (inl h)) = inr (inl (says_stands b t c h))
says_stands (loop u e b k) t c (inr (inr h)) = inr (inr (says_stands k t c h))

says_not : {A : Type 0} (B : Body) (u t : Tag) (c : Content) → ¬ StandsIn (skeleton B) (at u) → t ≡ u → Says B t c → A
says_not B u t c n e h = absurd (n (subst (λ v. StandsIn (skeleton B) (at v)) e (says_stands B t c h)))

says_apart : {A : Type 0} (B C : Body) (t : Tag) (c d : Content) → Apart (skeleton B) (skeleton C) → Says B t c → Says C t d → A
says_apart B C t c d f h g = absurd (f (at t) (says_stands B t c h) (says_stands C t d g))

pub says_one : (B : Body) → Distinct (skeleton B) → (t : Tag) (c d : Content) → Says B t c → Says B t d → c ≡ d
says_one done di t c d h g = absurd h
says_one (action u action_ k) di t c d (inl h) (inl g) = h.1 ∙ sym g.1
says_one (action u action_ k) di t c d (inl h) (inr g) = says_not k u t d di.0 h.0 g
says_one (action u action_ k) di t c d (inr h) (inl g) = says_not k u t c di.0 g.0 h
says_one (action u action_ k) di t c d (inr h) (inr g) = says_one k di.1 t c d h g
says_one (branch u e a b k) di t c d (inl h) (inl g) = h.1 ∙ sym g.1
says_one (branch u e a b k) di t c d (inl h) (inr (inl g)) = says_not a u t d di.0 h.0 g
says_one (branch u e a b k) di t c d (inl h) (inr (inr (inl g))) = says_not b u t d di.1 h.0 g
says_one (branch u e a b k) di t c d (inl h) (inr (inr (inr g))) = says_not k u t d di.2 h.0 g
says_one (branch u e a b k) di t c d (inr (inl h)) (inl g) = says_not a u t c di.0 g.0 h
says_one (branch u e a b k) di t c d (inr (inr (inl h))) (inl g) = says_not b u t c di.1 g.0 h
says_one (branch u e a b k) di t c d (inr (inr (inr h))) (inl g) = says_not k u t c di.2 g.0 h
says_one (branch u e a b k) di t c d (inr (inl h)) (inr (inl g)) = says_one a di.6 t c d h g
says_one (branch u e a b k) di t c d (inr (inl h)) (inr (inr (inl g))) = says_apart a b t c d di.3 h g
says_one (branch u e a b k) di t c d (inr (inl h)) (inr (inr (inr g))) = says_apart a k t c d di.4 h g
says_one (branch u e a b k) di t c d (inr (inr (inl h))) (inr (inl g)) = says_apart a b t d c di.3 g h
says_one (branch u e a b k) di t c d (inr (inr (inl h))) (inr (inr (inl g))) = says_one b di.7 t c d h g
says_one (branch u e a b k) di t c d (inr (inr (inl h))) (inr (inr (inr g))) = says_apart b k t c d di.5 h g
says_one (branch u e a b k) di t c d (inr (inr (inr h))) (inr (inl g)) = says_apart a k t d c di.4 g h
says_one (branch u e a b k) di t c d (inr (inr (inr h))) (inr (inr (inl g))) = says_apart b k t d c di.5 g h
says_one (branch u e a b k) di t c d (inr (inr (inr h))) (inr (inr (inr g))) = says_one k di.8 t c d h g
says_one (loop u e b k) di t c d (inl h) (inl g) = h.1 ∙ sym g.1
says_one (loop u e b k) di t c d (inl h) (inr (inl g)) = says_not b u t d di.0 h.0 g
says_one (loop u e b k) di t c d (inl h) (inr (inr g)) = says_not k u t d di.1 h.0 g
says_one (loop u e b k) di t c d (inr (inl h)) (inl g) = says_not b u t c di.0 g.0 h
says_one (loop u e b k) di t c d (inr (inr h)) (inl g) = says_not k u t c di.1 g.0 h
says_one (loop u e b k) di t c d (inr (inl h)) (inr (inl g)) = says_one b di.3 t c d h g
says_one (loop u e b k) di t c d (inr (inl h)) (inr (inr g)) = says_apart b k t c d di.2 h g
says_one (loop u e b k) di t c d (inr (inr h)) (inr (inl g)) = says_apart b k t d c di.2 g h
says_one (loop u e b k) di t c d (inr (inr h)) (inr (inr g)) = says_one k di.4 t c d h g

standing_not : {A : Type 0} (B : Body) (nest : List Tag) (up : Parent) (u t : Tag) (r : Standing) → ¬ StandsIn (skeleton B) (at u) → t ≡ u → StandsAs nest up B t r → A
standing_not B nest up u t r n e h = absurd (n (subst (λ v. StandsIn (skeleton B) (at v)) e (standing_in B nest up t r h)))

standing_apart : {A : Type 0} (B C : Body) (nb nc : List Tag) (ub uc : Parent) (t : Tag) (r q : Standing) → Apart (skeleton B) (skeleton C) → StandsAs nb ub B t r → StandsAs nc uc C t q → A
standing_apart B C nb nc ub uc t r q f h g = absurd (f (at t) (standing_in B nb ub t r h) (standing_in C nc uc t q g))

pub standing_one : (B : Body) (nest : List Tag) (up : Parent) → Distinct (skeleton B) → (t : Tag) (c d : Standing) → StandsAs nest up B t c → StandsAs nest up B t d → c ≡ d
standing_one done nest up di t c d h g = absurd h
standing_one (action u action_ k) nest up di t c d (inl h) (inl g) = h.1 ∙ sym g.1
standing_one (action u action_ k) nest up di t c d (inl h) (inr g) = standing_not k nest up u t d di.0 h.0 g
standing_one (action u action_ k) nest up di t c d (inr h) (inl g) = standing_not k nest up u t c di.0 g.0 h
standing_one (action u action_ k) nest up di t c d (inr h) (inr g) = standing_one k nest up di.1 t c d h g
standing_one (branch u e a b k) nest up di t c d (inl h) (inl g) = h.1 ∙ sym g.1
standing_one (branch u e a b k) nest up di t c d (inl h) (inr (inl g)) = standing_not a nest (Some (u, true)) u t d di.0 h.0 g
standing_one (branch u e a b k) nest up di t c d (inl h) (inr (inr (inl g))) = standing_not b nest (Some (u, false)) u t d di.1 h.0 g
standing_one (branch u e a b k) nest up di t c d (inl h) (inr (inr (inr g))) = standing_not k nest up u t d di.2 h.0 g
standing_one (branch u e a b k) nest up di t c d (inr (inl h)) (inl g) = standing_not a nest (Some (u, true)) u t c di.0 g.0 h
standing_one (branch u e a b k) nest up di t c d (inr (inr (inl h))) (inl g) = standing_not b nest (Some (u, false)) u t c di.1 g.0 h
standing_one (branch u e a b k) nest up di t c d (inr (inr (inr h))) (inl g) = standing_not k nest up u t c di.2 g.0 h
standing_one (branch u e a b k) nest up di t c d (inr (inl h)) (inr (inl g)) = standing_one a nest (Some (u, true)) di.6 t c d h g
standing_one (branch u e a b k) nest up di t c d (inr (inl h)) (inr (inr (inl g))) = standing_apart a b nest nest (Some (u, true)) (Some (u, false)) t c d di.3 h g
standing_one (branch u e a b k) nest up di t c d (inr (inl h)) (inr (inr (inr g))) = standing_apart a k nest nest (Some (u, true)) up t c d di.4 h g
standing_one (branch u e a b k) nest up di t c d (inr (inr (inl h))) (inr (inl g)) = standing_apart a b nest nest (Some (u, true)) (Some (u, false)) t d c di.3 g h
standing_one (branch u e a b k) nest up di t c d (inr (inr (inl h))) (inr (inr (inl g))) = standing_one b nest (Some (u, false)) di.7 t c d h g
standing_one (branch u e a b k) nest up di t c d (inr (inr (inl h))) (inr (inr (inr g))) = standing_apart b k nest nest (Some (u, false)) up t c d di.5 h g
standing_one (branch u e a b k) nest up di t c d (inr (inr (inr h))) (inr (inl g)) = standing_apart a k nest nest (Some (u, true)) up t d c di.4 g h
standing_one (branch u e a b k) nest up di t c d (inr (inr (inr h))) (inr (inr (inl g))) = standing_apart b k nest nest (Some (u, false)) up t d c di.5 g h
standing_one (branch u e a b k) nest up di t c d (inr (inr (inr h))) (inr (inr (inr g))) = standing_one k nest up di.8 t c d h g
standing_one (loop u e b k) nest up di t c d (inl h) (inl g) = h.1 ∙ sym g.1
standing_one (loop u e b k) nest up di t c d (inl h) (inr (inl g)) = standing_not b (nest ++ (u ∷ [])) (Some (u, true)) u t d di.0 h.0 g
standing_one (loop u e b k) nest up di t c d (inl h) (inr (inr g)) = standing_not k nest up u t d di.1 h.0 g
standing_one (loop u e b k) nest up di t c d (inr (inl h)) (inl g) = standing_not b (nest ++ (u ∷ [])) (Some (u, true)) u t c di.0 g.0 h
standing_one (loop u e b k) nest up di t c d (inr (inr h)) (inl g) = standing_not k nest up u t c di.1 g.0 h
standing_one (loop u e b k) nest up di t c d (inr (inl h)) (inr (inl g)) = standing_one b (nest ++ (u ∷ [])) (Some (u, true)) di.3 t c d h g
standing_one (loop u e b k) nest up di t c d (inr (inl h)) (inr (inr g)) = standing_apart b k (nest ++ (u ∷ [])) nest (Some (u, true)) up t c d di.2 h g
standing_one (loop u e b k) nest up di t c d (inr (inr h)) (inr (inl g)) = standing_apart b k (nest ++ (u ∷ [])) nest (Some (u, true)) up t d c di.2 g h
standing_one (loop u e b k) nest up di t c d (inr (inr h)) (inr (inr g)) = standing_one k nest up di.4 t c d h g

-- a part says what its standing says
pub says_of_standing : (B : Body) (nest : List Tag) (up : Parent) (t : Tag) (r : Standing) → StandsAs nest up B t r → Says B t r.content
says_of_standing done nest up t r h = h
says_of_standing (action u d k) nest up t r (inl h) = inl (h.0, ap (λ (q : Standing). q.content) h.1)
says_of_standing (action u d k) nest up t r (inr h) = inr (says_of_standing k nest up t r h)
says_of_standing (branch u e a b k) nest up t r (inl h) = inl (h.0, ap (λ (q : Standing). q.content) h.1)
says_of_standing (branch u e a b k) nest up t r (inr (inl h)) = inr (inl (says_of_standing a nest (Some (u, true)) t r h))
says_of_standing (branch u e a b k) nest up t r (inr (inr (inl h))) = inr (inr (inl (says_of_standing b nest (Some (u, false)) t r h)))
says_of_standing (branch u e a b k) nest up t r (inr (inr (inr h))) = inr (inr (inr (says_of_standing k nest up t r h)))
says_of_standing (loop u e b k) nest up t r (inl h) = inl (h.0, ap (λ (q : Standing). q.content) h.1)
says_of_standing (loop u e b k) nest up t r (inr (inl h)) = inr (inl (says_of_standing b (nest ++ (u ∷ [])) (Some (u, true)) t r h))
says_of_standing (loop u e b k) nest up t r (inr (inr h)) = inr (inr (says_of_standing k nest up t r h))

pub standing_of_says : (B : Body) (nest : List Tag) (up : Parent) (t : Tag) (c : Content) → Says B t c → (r : Standing) × StandsAs nest up B t r × (r.content ≡ c)
standing_of_says done nest up t c h = absurd h
standing_of_says (action u d k) nest up t c (inl h) = (_, inl (h.0, refl), sym h.1)
standing_of_says (action u d k) nest up t c (inr h) = let g = standing_of_says k nest up t c h in (g.0, inr g.1, g.2)
standing_of_says (branch u e a b k) nest up t c (inl h) = (_, inl (h.0, refl), sym h.1)
standing_of_says (branch u e a b k) nest up t c (inr (inl h)) = let g = standing_of_says a nest (Some (u, true)) t c h in (g.0, inr (inl g.1), g.2)
standing_of_says (branch u e a b k) nest up t c (inr (inr (inl h))) = let g = standing_of_says b nest (Some (u, false)) t c h in (g.0, inr (inr (inl g.1)), g.2)
standing_of_says (branch u e a b k) nest up t c (inr (inr (inr h))) = let g = standing_of_says k nest up t c h in (g.0, inr (inr (inr g.1)), g.2)
standing_of_says (loop u e b k) nest up t c (inl h) = (_, inl (h.0, refl), sym h.1)
standing_of_says (loop u e b k) nest up t c (inr (inl h)) = let g = standing_of_says b (nest ++ (u ∷ [])) (Some (u, true)) t c h in (g.0, inr (inl g.1), g.2)
standing_of_says (loop u e b k) nest up t c (inr (inr h)) = let g = standing_of_says k nest up t c h in (g.0, inr (inr g.1), g.2)

-- only acts define a name
module _ (p : Body) (di : Distinct (skeleton p)) (x : List ℕ) where
  predicate_defines : {A : Type 0} (t : Tag) (c : Content) → Says p t c → assigned c ≡ None → DefinesAt p x (at t) → A
  predicate_defines t c h n (u, d, is, says, by) =
      let same : c ≡ d = says_one p di t c d h (subst (λ v. Says p v d) (sym (same_at is)) says) in
      let no : None ≡ Some x = sym n ∙ ap assigned same ∙ by in
      absurd cc

  pub only_acts_define : (B : Body) → ((t : Tag) (c : Content) → Says B t c → Says p t c) → OnlyActsStop (skeleton B) (DefinesAt p x)
  only_acts_define done inc = tt
  only_acts_define (action u d k) inc = only_acts_define k (λ t c h. inc t c (inr h))
  only_acts_define (branch u e a b k) inc = (
    (λ d. predicate_defines u (If e) (inc u (If e) (inl (refl, refl))) refl d),
    only_acts_define a (λ t c h. inc t c (inr (inl h))),
    only_acts_define b (λ t c h. inc t c (inr (inr (inl h)))),
    only_acts_define k (λ t c h. inc t c (inr (inr (inr h)))),
  )
  only_acts_define (loop u e b k) inc = (
    (λ d. predicate_defines u (While e) (inc u (While e) (inl (refl, refl))) refl d),
    only_acts_define b (λ t c h. inc t c (inr (inl h))),
    only_acts_define k (λ t c h. inc t c (inr (inr h))),
  )
