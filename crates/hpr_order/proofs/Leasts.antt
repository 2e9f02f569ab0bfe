-- The least of what has a property, with one more that may have it.
use Rattle.std.proofs.Common.{◌≡◌, ℕ, ◌+◌, ◌<◌, ◌↔◌, ◌⊎◌, inl, inr, Bool, true, false, not, cond, if◌then◌else◌, Option, Some, None, List, length, take, get_or, Contains, refl, sym, ap, ◌∙◌, subst}
use Rattle.std.specs.Cmp.{IsTotalOrder, tied_itself}
use Rattle.std.specs.Ordering.{is_eq}
use Rattle.std.specs.declared.cmp.Ordering.{Ordering}
use Rattle.std.specs.declared.cmp.Ordering.TheVariants.{Less, Equal, Greater}
use Rattle.hpr_terms.specs.declared.tag.Tag.{Tag}
use Rattle.hpr_terms.specs.contracts.tag.TagOrd.TheImpl.Laws as tag_laws
use Rattle.hpr_terms.proofs.Facts.{taken_item}
use Rattle.hpr_syntax.specs.declared.rows.Content.{Content}
use Rattle.hpr_graph.specs.declared.vertex.Vertex.{Vertex}
use Rattle.hpr_graph.specs.declared.vertex.Vertex.TheVariants.{Entry, Init, Part, Final}
use Rattle.hpr_graph.specs.Graphs.{IsOnce}
use Rattle.hpr_graph.specs.Order.{tag_cmp}
use Rattle.hpr_graph.proofs.VertexOrder.{tag_tied, equal_by}
use Rattle.hpr_graph.proofs.Searches.{less_equal}
use Rattle.hpr_graph.proofs.Laws.{part_tag}
use Rattle.hpr_graph.proofs.Lists.{not_before}
use Rattle.hpr_order.specs.Regions.{IsLeastOf}
use Rattle.hpr_order.specs.Least.{HasTag, HasTwoIn, IsLeastIn, before_or, lesser, noted}

-- the order of tags is total
pub tag_total : IsTotalOrder tag_cmp
tag_total = tag_laws.total-law

module _ {X : Type 0} (cmp : X → X → Ordering) where
  -- only what has the property matters
  pub least_same : (P Q : X → Type 0) → ((x : X) → P x ↔ Q x) → (o : Option X) → IsLeastIn cmp P o → IsLeastIn cmp Q o
  least_same P Q same None none = λ x q. none x ((same x).1 q)
  least_same P Q same (Some x) (has, least) = ((same x).0 has, λ y q. least y ((same y).1 q))

  module _ (total : IsTotalOrder cmp) where
    not_before_itself : (x : X) → ¬ (cmp x x ≡ Less)
    not_before_itself x less = less_equal (sym less ∙ tied_itself total x)

    lesser_by : (P : X → Type 0) (m x : X) (r : Ordering) → cmp x m ≡ r → IsLeastOf cmp P m → IsLeastOf cmp (λ y. P y ⊎ (y ≡ x)) (before_or r x m)
    lesser_by P m x Less is (has, least) = (
      inr refl,
      λ y h less. elim h [
        | inl p ↦ least y p (total.trans y x m less is)
        | inr e ↦ not_before_itself x (subst (λ (z : X). cmp z x ≡ Less) e less)
      ],
    )
    lesser_by P m x Equal is (has, least) = (
      inl has,
      λ y h less. elim h [ inl p ↦ least y p less | inr e ↦ less_equal (sym (subst (λ (z : X). cmp z m ≡ Less) e less) ∙ is) ],
    )
    lesser_by P m x Greater is (has, least) = (
      inl has,
      λ y h less. elim h [ inl p ↦ least y p less | inr e ↦ (let both : Less ≡ Greater = sym (subst (λ (z : X). cmp z m ≡ Less) e less) ∙ is in absurd cc) ],
    )

    -- one more
    pub lesser_least : (P : X → Type 0) (o : Option X) (x : X) → IsLeastIn cmp P o → IsLeastIn cmp (λ y. P y ⊎ (y ≡ x)) (Some (lesser cmp o x))
    lesser_least P None x none = (
      inr refl,
      λ y h less. elim h [ inl p ↦ none y p | inr e ↦ not_before_itself x (subst (λ (z : X). cmp z x ≡ Less) e less) ],
    )
    lesser_least P (Some m) x least = lesser_by P m x (cmp x m) refl least

-- the tags of the first vertices
abbrev pub HasTagIn : List Vertex → Tag → Type 0
HasTagIn vs t = (c : Content) × Contains vs (Part t c)

part_content : (s t : Tag) (c d : Content) → Part s c ≡ Part t d → c ≡ d
part_content s t c d e = cc

module _ (vs : List Vertex) (i : ℕ) (v : Vertex) (once : IsOnce vs) (l : i < length vs) (is : v ≡ get_or vs i v) where
  tags_more : (t : Tag) → HasTagIn (take (i + 1) vs) t ↔ (HasTagIn (take i vs) t ⊎ HasTag v t)
  tags_more t = (
    λ (c, there). elim ((taken_item vs i v (Part t c) l is).0 there) [ inl was ↦ inl (c, was) | inr e ↦ inr (c, e) ],
    λ h. elim h [
      | inl (c, was) ↦ (c, (taken_item vs i v (Part t c) l is).1 (inl was))
      | inr (c, e) ↦ (c, (taken_item vs i v (Part t c) l is).1 (inr e))
    ],
  )

  pub seen_more : (seen seen' : Tag → Bool) → ((t : Tag) → (seen t ≡ true) ↔ HasTagIn (take i vs) t) → ((t : Tag) → (seen' t ≡ true) ↔ ((seen t ≡ true) ⊎ HasTag v t))
      → (t : Tag) → (seen' t ≡ true) ↔ HasTagIn (take (i + 1) vs) t
  seen_more seen seen' before more t = (
    λ h. (tags_more t).1 (elim ((more t).0 h) [ inl was ↦ inl ((before t).0 was) | inr now ↦ inr now ]),
    λ h. (more t).1 (elim ((tags_more t).0 h) [ inl was ↦ inl ((before t).1 was) | inr now ↦ inr now ]),
  )

  -- two of the first vertices stay two
  two_stay : (t : Tag) → HasTwoIn (take i vs) t → HasTwoIn (take (i + 1) vs) t
  two_stay t (c, d, ne, in_c, in_d) = (c, d, ne, (taken_item vs i v (Part t c) l is).1 (inl in_c), (taken_item vs i v (Part t d) l is).1 (inl in_d))

  -- where the tag of the new vertex isn't seen, no others are two
  two_were : (t : Tag) → ¬ (HasTag v t × HasTagIn (take i vs) t) → HasTwoIn (take (i + 1) vs) t → HasTwoIn (take i vs) t
  two_were t unseen (c, d, ne, in_c, in_d) = elim ((taken_item vs i v (Part t c) l is).0 in_c) [
    | inl was_c ↦ elim ((taken_item vs i v (Part t d) l is).0 in_d) [
      | inl was_d ↦ (c, d, ne, was_c, was_d)
      | inr is_d ↦ absurd (unseen ((d, is_d), (c, was_c)))
    ]
    | inr is_c ↦ elim ((taken_item vs i v (Part t d) l is).0 in_d) [
      | inl was_d ↦ absurd (unseen ((c, is_c), (d, was_d)))
      | inr is_d ↦ absurd (ne (part_content t t c d (sym is_c ∙ is_d)))
    ]
  ]

  -- where it is seen, it has two contents
  two_now : (t : Tag) (c : Content) → v ≡ Part t c → HasTagIn (take i vs) t → HasTwoIn (take (i + 1) vs) t
  two_now t c is_c (d, was) = (
    c,
    d,
    λ same. not_before vs i v once l is (subst (λ (w : Vertex). Contains (take i vs) w) (ap (λ (e : Content). Part t e) (sym same) ∙ sym is_c) was),
    (taken_item vs i v (Part t c) l is).1 (inr is_c),
    (taken_item vs i v (Part t d) l is).1 (inl was),
  )

  kept : (seen : Tag → Bool) (least : Option Tag) → ((t : Tag) → ¬ (HasTag v t × HasTagIn (take i vs) t)) → IsLeastIn tag_cmp (HasTwoIn (take i vs)) least → IsLeastIn tag_cmp (HasTwoIn (take (i + 1) vs)) least
  kept seen least unseen = least_same tag_cmp (HasTwoIn (take i vs)) (HasTwoIn (take (i + 1) vs)) (λ t. (two_stay t, two_were t (unseen t))) least

  raised : (seen : Tag → Bool) (least : Option Tag) → ((t : Tag) → (seen t ≡ true) ↔ HasTagIn (take i vs) t) → (t : Tag) (c : Content) → v ≡ Part t c → (b : Bool) → seen t ≡ b
      → IsLeastIn tag_cmp (HasTwoIn (take i vs)) least → IsLeastIn tag_cmp (HasTwoIn (take (i + 1) vs)) (if b then Some (lesser tag_cmp least t) else least)
  raised seen least all t c is_c true there h =
      least_same tag_cmp (λ s. HasTwoIn (take i vs) s ⊎ (s ≡ t)) (HasTwoIn (take (i + 1) vs))
      (λ s. (
        λ x. elim x [ inl was ↦ two_stay s was | inr e ↦ subst (λ (u : Tag). HasTwoIn (take (i + 1) vs) u) (sym e) (two_now t c is_c ((all t).0 there)) ],
        λ two. by_tag s two,
      ))
      (Some (lesser tag_cmp least t)) (lesser_least tag_cmp tag_total (HasTwoIn (take i vs)) least t h)
    where
      by_tag : (s : Tag) → HasTwoIn (take (i + 1) vs) s → HasTwoIn (take i vs) s ⊎ (s ≡ t)
      by_tag s (x, y, ne, in_x, in_y) = elim ((taken_item vs i v (Part s x) l is).0 in_x) [
        | inl was_x ↦ elim ((taken_item vs i v (Part s y) l is).0 in_y) [
          | inl was_y ↦ inl (x, y, ne, was_x, was_y)
          | inr is_y ↦ inr (part_tag s t y c (sym is_y ∙ is_c))
        ]
        | inr is_x ↦ inr (part_tag s t x c (sym is_x ∙ is_c))
      ]
  raised seen least all t c is_c false there h =
      kept seen least
      (λ s (has, was).
      (let (d, is_d) = has in
      let same : s ≡ t = part_tag s t d c (sym is_d ∙ is_c) in
      let yes : seen t ≡ true = (all t).1 (subst (λ (u : Tag). HasTagIn (take i vs) u) same was) in
      let both : true ≡ false = sym yes ∙ there in
      absurd cc))
      h

  other : (w : Vertex) → v ≡ w → ((t : Tag) → ¬ HasTag w t) → (seen : Tag → Bool) (least : Option Tag) → IsLeastIn tag_cmp (HasTwoIn (take i vs)) least → IsLeastIn tag_cmp (HasTwoIn (take (i + 1) vs)) least
  other w same none seen least = kept seen least (λ t h. none t (subst (λ (u : Vertex). HasTag u t) same h.0))

  by_vertex : (w : Vertex) → v ≡ w → (seen : Tag → Bool) (least : Option Tag) → ((t : Tag) → (seen t ≡ true) ↔ HasTagIn (take i vs) t)
      → IsLeastIn tag_cmp (HasTwoIn (take i vs)) least → IsLeastIn tag_cmp (HasTwoIn (take (i + 1) vs)) (noted seen least w)
  by_vertex Entry same seen least all = other Entry same (λ t (c, e). (absurd cc)) seen least
  by_vertex (Init x) same seen least all = other (Init x) same (λ t (c, e). (absurd cc)) seen least
  by_vertex (Part t c) same seen least all = raised seen least all t c same (seen t) refl
  by_vertex (Final x) same seen least all = other (Final x) same (λ t (c, e). (absurd cc)) seen least

  -- one vertex more
  pub two_more : (seen : Tag → Bool) (least : Option Tag) → ((t : Tag) → (seen t ≡ true) ↔ HasTagIn (take i vs) t)
      → IsLeastIn tag_cmp (HasTwoIn (take i vs)) least → IsLeastIn tag_cmp (HasTwoIn (take (i + 1) vs)) (noted seen least v)
  two_more = by_vertex v refl

-- a tag put among those seen
module _ (v : Vertex) (t : Tag) (c : Content) (is : v ≡ Part t c) where
  has_tag : (u : Tag) → HasTag v u → t ≡ u
  has_tag u (d, e) = part_tag t u c d (sym is ∙ e)

  seen_by : (u : Tag) (b had has : Bool) → is_eq (tag_cmp t u) ≡ b → has ≡ cond b true had → (has ≡ true) ↔ ((had ≡ true) ⊎ HasTag v u)
  seen_by u true had has equal now = (
    λ h. inr (c, is ∙ ap (λ (s : Tag). Part s c) (tag_tied t u (equal_by (tag_cmp t u) equal))),
    λ h. now,
  )
  seen_by u false had has equal now = (
    λ h. inl (sym now ∙ h),
    λ h. elim h [
      | inl was ↦ now ∙ was
      | inr tag ↦ (let same : tag_cmp t u ≡ Equal = sym (ap (λ (s : Tag). tag_cmp t s) (has_tag u tag)) ∙ tied_itself tag_total t in
          let both : true ≡ false = sym (ap is_eq same) ∙ equal in
          absurd cc)
    ],
  )

  pub seen_now : (seen seen' : Tag → Bool) → ((u : Tag) → seen' u ≡ cond (is_eq (tag_cmp t u)) true (seen u)) → (u : Tag) → (seen' u ≡ true) ↔ ((seen u ≡ true) ⊎ HasTag v u)
  seen_now seen seen' more u = seen_by u (is_eq (tag_cmp t u)) (seen u) (seen' u) refl (more u)

  noted_by : (seen : Tag → Bool) (least : Option Tag) (b : Bool) → seen t ≡ b → noted seen least v ≡ (if b then Some (lesser tag_cmp least t) else least)
  noted_by seen least b had = ap (noted seen least) is ∙ ap (λ (x : Bool). if x then Some (lesser tag_cmp least t) else least) had

  pub noted_fresh : (seen : Tag → Bool) (least : Option Tag) (added : Bool) → added ≡ not (seen t) → added ≡ true → least ≡ noted seen least v
  noted_fresh seen least added e new = sym (noted_by seen least false (turned (seen t) (sym e ∙ new)))
    where
      turned : (b : Bool) → not b ≡ true → b ≡ false
      turned false h = refl
      turned true h = absurd cc

  pub noted_again : (seen : Tag → Bool) (least : Option Tag) (added : Bool) (u : Tag) → added ≡ not (seen t) → added ≡ false → u ≡ lesser tag_cmp least t → Some u ≡ noted seen least v
  noted_again seen least added u e old is_u = ap (λ (s : Tag). Some s) is_u ∙ sym (noted_by seen least true (turned (seen t) (sym e ∙ old)))
    where
      turned : (b : Bool) → not b ≡ false → b ≡ true
      turned true h = refl
      turned false h = absurd cc

pub as_noted : (P : Tag → Type 0) (o o' : Option Tag) → o ≡ o' → IsLeastIn tag_cmp P o' → IsLeastIn tag_cmp P o
as_noted P o o' e h = subst (λ (x : Option Tag). IsLeastIn tag_cmp P x) (sym e) h
