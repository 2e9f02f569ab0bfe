-- What stands around a part, by number and by tag.
use Rattle.std.proofs.Common.{◌≡◌, ◌+◌, ℕ, true, false, Bool, inl, inr, Option, Some, None, List, [], ◌∷◌, ◌++◌, map, refl, sym, ap, ◌∙◌, subst}
use Rattle.std.specs.List.{slice_get}
use Rattle.std.specs.Option.{option_and_then}
use Rattle.std.proofs.lemmas.List.{map-append}
use Rattle.hpr_terms.specs.declared.tag.Tag.{Tag}
use Rattle.hpr_syntax.specs.declared.rows.Content.{Content}
use Rattle.hpr_syntax.specs.declared.rows.Content.TheVariants.{If, While}
use Rattle.hpr_syntax.specs.Rows.{content_by}
use Rattle.hpr_syntax.specs.Body.{Body, done, action, branch, loop, part_count}
use Rattle.hpr_syntax.specs.Tree.{Tree}
use Rattle.hpr_syntax.specs.Nests.{Standing, StandsAs, StandsAsIn, Says}
use Rattle.hpr_paths.specs.declared.spot.Step.{Step}
use Rattle.hpr_paths.specs.Spots.{Role, enter, part, exit, Spot, tag_of, loops_of, role_at, tag_at, nest_at}
use Rattle.hpr_paths.specs.Successors.{first_step, spot_of, spots}
use Rattle.hpr_paths.specs.Numbers.{HaveTags}
use Rattle.hpr_paths.proofs.Stands.{SpotIn, WholeIn, end_of, get_of_whole, whole_of_get}
use Rattle.hpr_paths.proofs.Names.{Holds, role_of_get, get_of_role}
use Rattle.hpr_paths.proofs.Whole.{holds_whole}

abbrev Up : Type 0
Up = Option (Tag × Bool)

-- one more loop on the inside
inside_tags : (S : List Spot) (w : List ℕ) (tags : List Tag) (n : ℕ) (t : Tag) → HaveTags S w tags → tag_at S n ≡ Some t → HaveTags S (w ++ n ∷ []) (tags ++ t ∷ [])
inside_tags S w tags n t have is =
    let Tags : Type 0 = List (Option Tag) in
    map-append (tag_at S) w (n ∷ []) ∙ ap (λ (r : Tags). r ++ tag_at S n ∷ []) have ∙ ap (λ (o : Option Tag). map (λ (u : Tag). Some u) tags ++ o ∷ []) is
    ∙ sym (map-append (λ (u : Tag). Some u) tags (t ∷ []))

loop_tags : (S : List Spot) (t : Tag) (e : _) (b rest : Body) (n : ℕ) (f : Step) (w : List ℕ) (tags : List Tag) → Holds S (loop t e b rest) n f w → HaveTags S w tags → HaveTags S (w ++ n ∷ []) (tags ++ t ∷ [])
loop_tags S t e b rest n f w tags holds have =
    inside_tags S w tags n t have (ap (option_and_then tag_of) (role_of_get S n _ (holds n _ (inl (refl, refl)))))

-- the part v, with the content c and these loops, stands so in a block
pub record StandsSo (S : List Spot) (tags : List Tag) (up : Up) (b : Body) (v : Tag) (c : Content) (w : List ℕ) : Type 0 where
  pub standing : Standing
  pub stands : StandsAs tags up b v standing
  pub content : standing.content ≡ c
  pub nest : HaveTags S w standing.nest

here : (S : List Spot) (tags : List Tag) (up : Up) (b : Body) (t v : Tag) (c d : Content) (w : List ℕ) (s : Spot) (next : List Step) (out : List Tag) → s ≡ spot_of next w (part t d) → s.role ≡ part v c → HaveTags S w out
    → (v ≡ t → StandsAs tags up b v (record { content = d; nest = out; parent = up })) → StandsSo S tags up b v c s.nest
here S tags up b t v c d w s next out is role have stands =
    let r : part v c ≡ part t d = sym role ∙ ap (λ (q : Spot). q.role) is in
    let same_tag : v ≡ t = cc in
    let same_content : d ≡ c = cc in
    let P : List ℕ → Type 0 = λ x. HaveTags S x out in
    record { standing = record { content = d; nest = out; parent = up }; stands = stands same_tag; content = same_content; nest = subst P (ap (λ (q : Spot). q.nest) (sym is)) have }

deeper : (S : List Spot) (tags tags' : List Tag) (up up' : Up) (b b' : Body) (v : Tag) (c : Content) (w : List ℕ) → ((s : Standing) → StandsAs tags up b v s → StandsAs tags' up' b' v s) → StandsSo S tags up b v c w → StandsSo S tags' up' b' v c w
deeper S tags tags' up up' b b' v c w f h = record { standing = h.standing; stands = f h.standing h.stands; content = h.content; nest = h.nest }

pub stands_of_spot : (S : List Spot) (b : Body) (n : ℕ) (f : Step) (w : List ℕ) (tags : List Tag) (up : Up) (p : ℕ) (s : Spot) (v : Tag) (c : Content) → Holds S b n f w → HaveTags S w tags → SpotIn b n f w p s → s.role ≡ part v c → StandsSo S tags up b v c s.nest
stands_of_spot S done n f w tags up p s v c holds have h role = absurd h
stands_of_spot S (action t action_ rest) n f w tags up p s v c holds have (inl h) role = here S tags up (action t action_ rest) t v c (content_by action_) w s _ tags h.1 role have (λ is. inl (is, refl))
stands_of_spot S (action t action_ rest) n f w tags up p s v c holds have (inr h) role =
    deeper S tags tags up up rest (action t action_ rest) v c s.nest (λ u i. inr i) (stands_of_spot S rest (n + 1) f w tags up p s v c (λ p s i. holds p s (inr i)) have h role)
stands_of_spot S (branch t e a b rest) n f w tags up p s v c holds have (inl h) role = here S tags up (branch t e a b rest) t v c (If e) w s _ tags h.1 role have (λ is. inl (is, refl))
stands_of_spot S (branch t e a b rest) n f w tags up p s v c holds have (inr h) role =
    let no : ℕ = n + 1 + part_count a in
    let next : ℕ = no + part_count b in
    let after : Step = first_step rest next f in
    elim h [
      | inl x ↦ deeper S tags tags (Some (t, true)) up a (branch t e a b rest) v c s.nest (λ u i. inr (inl i)) (stands_of_spot S a (n + 1) after w tags (Some (t, true)) p s v c (λ p s i. holds p s (inr (inl i))) have x role)
      | inr k ↦ elim k [
        | inl x ↦ deeper S tags tags (Some (t, false)) up b (branch t e a b rest) v c s.nest (λ u i. inr (inr (inl i))) (stands_of_spot S b no after w tags (Some (t, false)) p s v c (λ p s i. holds p s (inr (inr (inl i)))) have x role)
        | inr x ↦ deeper S tags tags up up rest (branch t e a b rest) v c s.nest (λ u i. inr (inr (inr i))) (stands_of_spot S rest next f w tags up p s v c (λ p s i. holds p s (inr (inr (inr i)))) have x role)
      ]
    ]
stands_of_spot S (loop t e b rest) n f w tags up p s v c holds have (inl h) role =
    here S tags up (loop t e b rest) t v c (While e) (w ++ n ∷ []) s _ (tags ++ t ∷ []) h.1 role (loop_tags S t e b rest n f w tags holds have) (λ is. inl (is, refl))
stands_of_spot S (loop t e b rest) n f w tags up p s v c holds have (inr h) role =
    let next : ℕ = n + 1 + part_count b in
    let again : Step = record { to = n; back = true } in
    elim h [
      | inl x ↦ deeper S (tags ++ t ∷ []) tags (Some (t, true)) up b (loop t e b rest) v c s.nest (λ u i. inr (inl i))
          (stands_of_spot S b (n + 1) again (w ++ n ∷ []) (tags ++ t ∷ []) (Some (t, true)) p s v c (λ p s i. holds p s (inr (inl i))) (loop_tags S t e b rest n f w tags holds have) x role)
      | inr x ↦ deeper S tags tags up up rest (loop t e b rest) v c s.nest (λ u i. inr (inr i)) (stands_of_spot S rest next f w tags up p s v c (λ p s i. holds p s (inr (inr i))) have x role)
    ]

-- a spot of In says what the standing says
pub record SpotSo (S : List Spot) (In : ℕ → Spot → Type 0) (v : Tag) (st : Standing) : Type 0 where
  pub number : ℕ
  pub spot : Spot
  pub stands : In number spot
  pub role : spot.role ≡ part v st.content
  pub nest : HaveTags S spot.nest st.nest

there : (S : List Spot) (In : ℕ → Spot → Type 0) (n : ℕ) (next : List Step) (w : List ℕ) (tags : List Tag) (up : Up) (t v : Tag) (c : Content) (st : Standing) → In n (spot_of next w (part t c)) → v ≡ t → st ≡ record { content = c; nest = tags; parent = up } → HaveTags S w tags → SpotSo S In v st
there S In n next w tags up t v c st stands same is have =
    let P : List Tag → Type 0 = λ x. HaveTags S w x in
    let content : c ≡ st.content = ap (λ (x : Standing). x.content) (sym is) in
    record { number = n; spot = spot_of next w (part t c); stands = stands; role = ap (λ (x : Content). part t x) content ∙ ap (λ (x : Tag). part x st.content) (sym same); nest = subst P (ap (λ (x : Standing). x.nest) (sym is)) have }

wider : (S : List Spot) (In Out : ℕ → Spot → Type 0) (v : Tag) (st : Standing) → ((p : ℕ) (s : Spot) → In p s → Out p s) → SpotSo S In v st → SpotSo S Out v st
wider S In Out v st f h = record { number = h.number; spot = h.spot; stands = f h.number h.spot h.stands; role = h.role; nest = h.nest }

pub spot_of_stands : (S : List Spot) (b : Body) (n : ℕ) (f : Step) (w : List ℕ) (tags : List Tag) (up : Up) (v : Tag) (st : Standing) → Holds S b n f w → HaveTags S w tags → StandsAs tags up b v st → SpotSo S (SpotIn b n f w) v st
spot_of_stands S done n f w tags up v st holds have h = absurd h
spot_of_stands S (action t action_ rest) n f w tags up v st holds have (inl h) = there S (SpotIn (action t action_ rest) n f w) n _ w tags up t v (content_by action_) st (inl (refl, refl)) h.0 h.1 have
spot_of_stands S (action t action_ rest) n f w tags up v st holds have (inr h) =
    wider S (SpotIn rest (n + 1) f w) (SpotIn (action t action_ rest) n f w) v st (λ p s i. inr i) (spot_of_stands S rest (n + 1) f w tags up v st (λ p s i. holds p s (inr i)) have h)
spot_of_stands S (branch t e a b rest) n f w tags up v st holds have (inl h) = there S (SpotIn (branch t e a b rest) n f w) n _ w tags up t v (If e) st (inl (refl, refl)) h.0 h.1 have
spot_of_stands S (branch t e a b rest) n f w tags up v st holds have (inr h) =
    let no : ℕ = n + 1 + part_count a in
    let next : ℕ = no + part_count b in
    let after : Step = first_step rest next f in
    elim h [
      | inl x ↦ wider S (SpotIn a (n + 1) after w) (SpotIn (branch t e a b rest) n f w) v st (λ p s i. inr (inl i)) (spot_of_stands S a (n + 1) after w tags (Some (t, true)) v st (λ p s i. holds p s (inr (inl i))) have x)
      | inr k ↦ elim k [
        | inl x ↦ wider S (SpotIn b no after w) (SpotIn (branch t e a b rest) n f w) v st (λ p s i. inr (inr (inl i))) (spot_of_stands S b no after w tags (Some (t, false)) v st (λ p s i. holds p s (inr (inr (inl i)))) have x)
        | inr x ↦ wider S (SpotIn rest next f w) (SpotIn (branch t e a b rest) n f w) v st (λ p s i. inr (inr (inr i))) (spot_of_stands S rest next f w tags up v st (λ p s i. holds p s (inr (inr (inr i)))) have x)
      ]
    ]
spot_of_stands S (loop t e b rest) n f w tags up v st holds have (inl h) =
    there S (SpotIn (loop t e b rest) n f w) n _ (w ++ n ∷ []) (tags ++ t ∷ []) up t v (While e) st (inl (refl, refl)) h.0 h.1 (loop_tags S t e b rest n f w tags holds have)
spot_of_stands S (loop t e b rest) n f w tags up v st holds have (inr h) =
    let next : ℕ = n + 1 + part_count b in
    let again : Step = record { to = n; back = true } in
    elim h [
      | inl x ↦ wider S (SpotIn b (n + 1) again (w ++ n ∷ [])) (SpotIn (loop t e b rest) n f w) v st (λ p s i. inr (inl i))
          (spot_of_stands S b (n + 1) again (w ++ n ∷ []) (tags ++ t ∷ []) (Some (t, true)) v st (λ p s i. holds p s (inr (inl i))) (loop_tags S t e b rest n f w tags holds have) x)
      | inr x ↦ wider S (SpotIn rest next f w) (SpotIn (loop t e b rest) n f w) v st (λ p s i. inr (inr i)) (spot_of_stands S rest next f w tags up v st (λ p s i. holds p s (inr (inr i))) have x)
    ]

spot_stands : (t : Tree) (p : ℕ) (s : Spot) (v : Tag) (c : Content) → WholeIn t p s → s.role ≡ part v c → StandsSo (spots t) [] None t.body v c s.nest
spot_stands t p s v c (inl h) role = let r : enter ≡ part v c = sym (ap (λ (q : Spot). q.role) h.1) ∙ role in absurd cc
spot_stands t p s v c (inr (inl h)) role = stands_of_spot (spots t) t.body 1 (end_of t) [] [] None p s v c (holds_whole t) refl h role
spot_stands t p s v c (inr (inr h)) role = let r : exit t.finals ≡ part v c = sym (ap (λ (q : Spot). q.role) h.1) ∙ role in absurd cc

pub nest_of_number : (t : Tree) (p : ℕ) (v : Tag) (c : Content) → role_at (spots t) p ≡ Some (part v c)
    → (s : Standing) × StandsAsIn t.body v s × (s.content ≡ c) × HaveTags (spots t) (nest_at (spots t) p) s.nest
nest_of_number t p v c h =
    let g = get_of_role (spots t) p (part v c) h in
    let k = spot_stands t p g.0 v c (whole_of_get t p g.0 g.1) g.2 in
    let P : List ℕ → Type 0 = λ w. HaveTags (spots t) w k.standing.nest in
    (k.standing, k.stands, k.content, subst P (sym (ap loops_of g.1)) k.nest)

pub number_of_nest : (t : Tree) (v : Tag) (s : Standing) → StandsAsIn t.body v s
    → (p : ℕ) × (role_at (spots t) p ≡ Some (part v s.content)) × HaveTags (spots t) (nest_at (spots t) p) s.nest
number_of_nest t v s h =
    let k = spot_of_stands (spots t) t.body 1 (end_of t) [] [] None v s (holds_whole t) refl h in
    let get : slice_get (spots t) k.number ≡ Some k.spot = get_of_whole t k.number k.spot (inr (inl k.stands)) in
    let P : List ℕ → Type 0 = λ w. HaveTags (spots t) w s.nest in
    (k.number, role_of_get (spots t) k.number k.spot get ∙ ap (λ (r : Role). Some r) k.role, subst P (sym (ap loops_of get)) k.nest)

says_of_stands : (tags : List Tag) (up : Up) (b : Body) (v : Tag) (s : Standing) → StandsAs tags up b v s → Says b v s.content
says_of_stands tags up done v s h = absurd h
says_of_stands tags up (action t d rest) v s (inl h) = inl (h.0, ap (λ (q : Standing). q.content) h.1)
says_of_stands tags up (action t d rest) v s (inr h) = inr (says_of_stands tags up rest v s h)
says_of_stands tags up (branch t e a b rest) v s (inl h) = inl (h.0, ap (λ (q : Standing). q.content) h.1)
says_of_stands tags up (branch t e a b rest) v s (inr h) = inr (elim h [
  | inl x ↦ inl (says_of_stands tags (Some (t, true)) a v s x)
  | inr k ↦ inr (elim k [ inl x ↦ inl (says_of_stands tags (Some (t, false)) b v s x) | inr x ↦ inr (says_of_stands tags up rest v s x) ])
])
says_of_stands tags up (loop t e b rest) v s (inl h) = inl (h.0, ap (λ (q : Standing). q.content) h.1)
says_of_stands tags up (loop t e b rest) v s (inr h) = inr (elim h [
  | inl x ↦ inl (says_of_stands (tags ++ t ∷ []) (Some (t, true)) b v s x)
  | inr x ↦ inr (says_of_stands tags up rest v s x)
])

stands_of_says : (tags : List Tag) (up : Up) (b : Body) (v : Tag) (c : Content) → Says b v c → (s : Standing) × StandsAs tags up b v s × (s.content ≡ c)
stands_of_says tags up done v c h = absurd h
stands_of_says tags up (action t d rest) v c (inl h) = (record { content = content_by d; nest = tags; parent = up }, inl (h.0, refl), sym h.1)
stands_of_says tags up (action t d rest) v c (inr h) = let k = stands_of_says tags up rest v c h in (k.0, inr k.1, k.2)
stands_of_says tags up (branch t e a b rest) v c (inl h) = (record { content = If e; nest = tags; parent = up }, inl (h.0, refl), sym h.1)
stands_of_says tags up (branch t e a b rest) v c (inr h) = elim h [
  | inl x ↦ (let k = stands_of_says tags (Some (t, true)) a v c x in (k.0, inr (inl k.1), k.2))
  | inr m ↦ elim m [
    | inl x ↦ (let k = stands_of_says tags (Some (t, false)) b v c x in (k.0, inr (inr (inl k.1)), k.2))
    | inr x ↦ (let k = stands_of_says tags up rest v c x in (k.0, inr (inr (inr k.1)), k.2))
  ]
]
stands_of_says tags up (loop t e b rest) v c (inl h) = (record { content = While e; nest = tags ++ t ∷ []; parent = up }, inl (h.0, refl), sym h.1)
stands_of_says tags up (loop t e b rest) v c (inr h) = elim h [
  | inl x ↦ (let k = stands_of_says (tags ++ t ∷ []) (Some (t, true)) b v c x in (k.0, inr (inl k.1), k.2))
  | inr x ↦ (let k = stands_of_says tags up rest v c x in (k.0, inr (inr k.1), k.2))
]

pub says_of_number : (t : Tree) (p : ℕ) (v : Tag) (c : Content) → role_at (spots t) p ≡ Some (part v c) → Says t.body v c
says_of_number t p v c h =
    let k = nest_of_number t p v c h in
    let P : Content → Type 0 = λ d. Says t.body v d in
    subst P k.2 (says_of_stands [] None t.body v k.0 k.1)

pub number_of_says : (t : Tree) (v : Tag) (c : Content) → Says t.body v c → (p : ℕ) × (role_at (spots t) p ≡ Some (part v c))
number_of_says t v c h =
    let k = stands_of_says [] None t.body v c h in
    let g = number_of_nest t v k.0 k.1 in
    (g.0, g.1 ∙ ap (λ (d : Content). Some (part v d)) k.2)
