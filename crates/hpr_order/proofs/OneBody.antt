-- A program is read back from its parts in preorder and what each stands under.
--
-- Placed         == a part: its tag, what it says, and the part right around it with the branch
-- placed up b    == the parts of a block right under this parent, in preorder
use Rattle.std.proofs.Common.{◌≡◌, ℕ, ◌+◌, Bool, true, false, inl, inr, ◌⊎◌, Some, None, List, [], ◌∷◌, ◌++◌, map, Contains, refl, sym, ap, ap₂, ◌∙◌, subst, append_assoc}
use Rattle.std.proofs.lemmas.List.{map-append}
use Rattle.std.proofs.lemmas.List.Elements.{Contains-append_cases}
use Rattle.hpr_terms.specs.declared.tag.Tag.{Tag}
use Rattle.hpr_terms.specs.declared.expr.Expr.{Expr}
use Rattle.hpr_syntax.specs.declared.rows.Row.{Row}
use Rattle.hpr_syntax.specs.declared.rows.Content.{Content}
use Rattle.hpr_syntax.specs.declared.rows.Content.TheVariants.{If, While}
use Rattle.hpr_syntax.specs.Action.{Action}
use Rattle.hpr_syntax.specs.Body.{Body, done, action, branch, loop}
use Rattle.hpr_syntax.specs.Nests.{Standing, StandsAs, Says}
use Rattle.hpr_syntax.specs.Rows.{Parent, content_by, rows_of}
use Rattle.hpr_syntax.proofs.ByStructure.{content_inj, no_test, no_loop}
use Rattle.hpr_syntax.specs.Skeleton.{at, StandsIn, Distinct, skeleton}
use Rattle.hpr_syntax.specs.Tree.{Tree}
use Rattle.hpr_graph.specs.declared.vertex.Vertex.{Vertex}
use Rattle.hpr_graph.specs.declared.vertex.Vertex.TheVariants.{Part}
use Rattle.hpr_graph.specs.Rank.{parts_of}
use Rattle.hpr_graph.proofs.Lists.{some_inj, in_none, in_cons}

pub record Placed : Type 0 where
  pub tag : Tag
  pub content : Content
  pub parent : Parent

abbrev pub vertex : Placed → Vertex
vertex i = Part i.tag i.content

abbrev item : Tag → Content → Parent → Placed
item t c up = record { tag = t; content = c; parent = up }

abbrev pub placed : Parent → Body → List Placed
placed up done = []
placed up (action t d rest) = item t (content_by d) up ∷ placed up rest
placed up (branch t e a b rest) = item t (If e) up ∷ (placed (Some (t, true)) a ++ (placed (Some (t, false)) b ++ placed up rest))
placed up (loop t e b rest) = item t (While e) up ∷ (placed (Some (t, true)) b ++ placed up rest)

-- ---- the parts of a program are these

abbrev vertex_of : Row → Vertex
vertex_of row = Part row.tag row.content

rows_placed : (up : Parent) (i : ℕ) (b : Body) → map vertex_of (rows_of up i b) ≡ map vertex (placed up b)
rows_placed up i done = refl
rows_placed up i (action t d rest) = ap (λ (r : List Vertex). Part t (content_by d) ∷ r) (rows_placed up (i + 1) rest)
rows_placed up i (branch t e a b rest) =
    let ra : List Row = rows_of (Some (t, true)) 0 a in
    let rb : List Row = rows_of (Some (t, false)) 0 b in
    let rc : List Row = rows_of up (i + 1) rest in
    let pa : List Placed = placed (Some (t, true)) a in
    let pb : List Placed = placed (Some (t, false)) b in
    let pc : List Placed = placed up rest in
    let a_is : map vertex_of ra ≡ map vertex pa = rows_placed (Some (t, true)) 0 a in
    let b_is : map vertex_of rb ≡ map vertex pb = rows_placed (Some (t, false)) 0 b in
    let c_is : map vertex_of rc ≡ map vertex pc = rows_placed up (i + 1) rest in
    let back : map vertex_of rb ++ map vertex_of rc ≡ map vertex (pb ++ pc) =
    ap₂ (λ (r s : List Vertex). r ++ s) b_is c_is ∙ sym (map-append vertex pb pc) in
    ap (λ (r : List Vertex). Part t (If e) ∷ r)
    (map-append vertex_of (ra ++ rb) rc
    ∙ ap (λ (r : List Vertex). r ++ map vertex_of rc) (map-append vertex_of ra rb)
    ∙ append_assoc (map vertex_of ra) (map vertex_of rb) (map vertex_of rc)
    ∙ ap₂ (λ (r s : List Vertex). r ++ s) a_is back
    ∙ sym (map-append vertex pa (pb ++ pc)))
rows_placed up i (loop t e b rest) =
    let rb : List Row = rows_of (Some (t, true)) 0 b in
    let rc : List Row = rows_of up (i + 1) rest in
    let pb : List Placed = placed (Some (t, true)) b in
    let pc : List Placed = placed up rest in
    ap (λ (r : List Vertex). Part t (While e) ∷ r)
    (map-append vertex_of rb rc
    ∙ ap₂ (λ (r s : List Vertex). r ++ s) (rows_placed (Some (t, true)) 0 b) (rows_placed up (i + 1) rest)
    ∙ sym (map-append vertex pb pc))

pub parts_placed : (p : Tree) → parts_of p ≡ map vertex (placed None p.body)
parts_placed p = rows_placed None 0 p.body

-- ---- each stands so

-- a part stands so, right under this parent or under a part of the block
pub record StandsSo (nest : List Tag) (up : Parent) (b : Body) (i : Placed) : Type 0 where
  pub standing : Standing
  pub stands : StandsAs nest up b i.tag standing
  pub content : standing.content ≡ i.content
  pub parent : standing.parent ≡ i.parent
  pub under : (i.parent ≡ up) ⊎ ((u : Tag) × (l : Bool) × (c : Content) × (i.parent ≡ Some (u, l)) × Says b u c)

module _ (nest : List Tag) (up : Parent) (b : Body) (t : Tag) (s : Standing) (i : Placed) (same : item t s.content up ≡ i) (is : s.parent ≡ up) (stands : StandsAs nest up b t s) where
  first_so : StandsSo nest up b i
  first_so = record {
    standing = s;
    stands = subst (λ (j : Placed). StandsAs nest up b j.tag s) same stands;
    content = ap (λ (j : Placed). j.content) same;
    parent = is ∙ ap (λ (j : Placed). j.parent) same;
    under = inl (sym (ap (λ (j : Placed). j.parent) same));
  }

-- what stands in a block of a part
module _ (nest : List Tag) (up : Parent) (b : Body) (i : Placed) (inner : List Tag) (t : Tag) (l : Bool) (c : Content) (says : Says b t c) (x : Body)
    (stands : (s : Standing) → StandsAs inner (Some (t, l)) x i.tag s → StandsAs nest up b i.tag s) (more : (u : Tag) (d : Content) → Says x u d → Says b u d) where
  inner_so : StandsSo inner (Some (t, l)) x i → StandsSo nest up b i
  inner_so h = record {
    standing = h.standing;
    stands = stands h.standing h.stands;
    content = h.content;
    parent = h.parent;
    under = inr (elim h.under [
      | inl e ↦ (t, l, c, e, says)
      | inr deep ↦ (deep.0, deep.1, deep.2, deep.3, more deep.0 deep.2 deep.4)
    ]);
  }

-- what stands behind a part
module _ (nest : List Tag) (up : Parent) (b : Body) (i : Placed) (x : Body)
    (stands : (s : Standing) → StandsAs nest up x i.tag s → StandsAs nest up b i.tag s) (more : (u : Tag) (d : Content) → Says x u d → Says b u d) where
  later_so : StandsSo nest up x i → StandsSo nest up b i
  later_so h = record {
    standing = h.standing;
    stands = stands h.standing h.stands;
    content = h.content;
    parent = h.parent;
    under = elim h.under [ inl e ↦ inl e | inr deep ↦ inr (deep.0, deep.1, deep.2, deep.3, more deep.0 deep.2 deep.4) ];
  }

pub stands_so : (nest : List Tag) (up : Parent) (b : Body) (i : Placed) → Contains (placed up b) i → StandsSo nest up b i
stands_so nest up done i h = absurd (in_none i h)
stands_so nest up (action t action_ rest) i h = elim (in_cons (item t (content_by action_) up) i (placed up rest) h) [
  | inl same ↦ first_so nest up (action t action_ rest) t (record { content = content_by action_; nest = nest; parent = up }) i same refl (inl (refl, refl))
  | inr later ↦ later_so nest up (action t action_ rest) i rest (λ s k. inr k) (λ u d k. inr k) (stands_so nest up rest i later)
]
stands_so nest up (branch t e a b rest) i h =
    elim (in_cons (item t (If e) up) i (placed (Some (t, true)) a ++ (placed (Some (t, false)) b ++ placed up rest)) h) [
      | inl same ↦ first_so nest up (branch t e a b rest) t (record { content = If e; nest = nest; parent = up }) i same refl (inl (refl, refl))
      | inr behind ↦ elim (Contains-append_cases (placed (Some (t, true)) a) (placed (Some (t, false)) b ++ placed up rest) i behind) [
        | inl in_a ↦ inner_so nest up (branch t e a b rest) i nest t true (If e) (inl (refl, refl)) a (λ s k. inr (inl k)) (λ u d k. inr (inl k)) (stands_so nest (Some (t, true)) a i in_a)
        | inr more ↦ elim (Contains-append_cases (placed (Some (t, false)) b) (placed up rest) i more) [
          | inl in_b ↦ inner_so nest up (branch t e a b rest) i nest t false (If e) (inl (refl, refl)) b (λ s k. inr (inr (inl k))) (λ u d k. inr (inr (inl k))) (stands_so nest (Some (t, false)) b i in_b)
          | inr last ↦ later_so nest up (branch t e a b rest) i rest (λ s k. inr (inr (inr k))) (λ u d k. inr (inr (inr k))) (stands_so nest up rest i last)
        ]
      ]
    ]
stands_so nest up (loop t e b rest) i h = elim (in_cons (item t (While e) up) i (placed (Some (t, true)) b ++ placed up rest) h) [
  | inl same ↦ first_so nest up (loop t e b rest) t (record { content = While e; nest = nest ++ (t ∷ []); parent = up }) i same refl (inl (refl, refl))
  | inr behind ↦ elim (Contains-append_cases (placed (Some (t, true)) b) (placed up rest) i behind) [
    | inl in_b ↦ inner_so nest up (loop t e b rest) i (nest ++ (t ∷ [])) t true (While e) (inl (refl, refl)) b (λ s k. inr (inl k)) (λ u d k. inr (inl k)) (stands_so (nest ++ (t ∷ [])) (Some (t, true)) b i in_b)
    | inr last ↦ later_so nest up (loop t e b rest) i rest (λ s k. inr (inr k)) (λ u d k. inr (inr k)) (stands_so nest up rest i last)
  ]
]

-- ---- the block is read back

-- the parent's tag is none of the block's
abbrev IsOutside : Parent → Body → Type 0
IsOutside up x = (t : Tag) (l : Bool) → up ≡ Some (t, l) → ¬ StandsIn (skeleton x) (at t)

-- the first of these stands neither under this parent nor under a part of the block
abbrev Ends : Body → Parent → List Placed → Type 0
Ends x up [] = Unit {0}
Ends x up (i ∷ r) = (¬ (i.parent ≡ up)) × IsOutside i.parent x

-- the same where more stands between, under another parent that is outside
ends_past : (x : Body) (up : Parent) (y : Body) (other : Parent) (r : List Placed) → ¬ (other ≡ up) → IsOutside other x → Ends x up r → Ends x up (placed other y ++ r)
ends_past x up done other r apart outside ends = ends
ends_past x up (action t d k) other r apart outside ends = (apart, outside)
ends_past x up (branch t e a b k) other r apart outside ends = (apart, outside)
ends_past x up (loop t e b k) other r apart outside ends = (apart, outside)

ends_within : (x y : Body) (up : Parent) (r : List Placed) → ((t : Tag) → StandsIn (skeleton y) (at t) → StandsIn (skeleton x) (at t)) → Ends x up r → Ends y up r
ends_within x y up [] more ends = tt
ends_within x y up (i ∷ r) more ends = (ends.0, λ t l e h. ends.1 t l e (more t h))

-- where a part of the block has this block inside
ends_inside : (x y : Body) (up : Parent) (t : Tag) (l : Bool) (r : List Placed) → StandsIn (skeleton x) (at t)
    → ((u : Tag) → StandsIn (skeleton y) (at u) → StandsIn (skeleton x) (at u)) → Ends x up r → Ends y (Some (t, l)) r
ends_inside x y up t l [] there more ends = tt
ends_inside x y up t l (i ∷ r) there more ends = (λ e. ends.1 t l e there, λ u m e h. ends.1 u m e (more u h))

-- what begins with a part under this parent has no such end
never_ends : (x : Body) (up : Parent) (i : Placed) (rest r : List Placed) → i ∷ rest ≡ r → i.parent ≡ up → ¬ Ends x up r
never_ends x up i rest [] e is ends = absurd cc
never_ends x up i rest (j ∷ r) e is ends = let same : i ≡ j = cc in ends.0 (subst (λ (k : Placed). k.parent ≡ up) same is)

-- what is known of a block and of the parts behind it
pub record Before (up : Parent) (x : Body) (r : List Placed) : Type 0 where
  pub distinct : Distinct (skeleton x)
  pub outside : IsOutside up x
  pub ends : Ends x up r

abbrev ReadsBack : Body → Type 0
ReadsBack x = (up : Parent) (y : Body) (r s : List Placed) → Before up x r → Before up y s → placed up x ++ r ≡ placed up y ++ s → (x ≡ y) × (r ≡ s)

outside_own : (t : Tag) (l : Bool) (x : Body) → ¬ StandsIn (skeleton x) (at t) → IsOutside (Some (t, l)) x
outside_own t l x none u m e h =
    let same : u ≡ t = sym (ap (λ (p : Tag × Bool). p.0) (some_inj {X = Tag × Bool} (t, l) (u, m) e)) in
    none (subst (λ (v : Tag). StandsIn (skeleton x) (at v)) same h)

other_branch : (t : Tag) → ¬ ◌≡◌ {A = Parent} (Some (t, false)) (Some (t, true))
other_branch t e = let same : false ≡ true = ap (λ (p : Tag × Bool). p.1) (some_inj {X = Tag × Bool} (t, false) (t, true) e) in absurd cc

back_done : ReadsBack done
back_done up done r s p q same = (refl, same)
back_done up (action u d k) r s p q same = absurd (never_ends done up (item u (content_by d) up) (placed up k ++ s) r (sym same) refl p.ends)
back_done up (branch u f a b k) r s p q same =
    absurd (never_ends done up (item u (If f) up) ((placed (Some (u, true)) a ++ (placed (Some (u, false)) b ++ placed up k)) ++ s) r (sym same) refl p.ends)
back_done up (loop u f b k) r s p q same = absurd (never_ends done up (item u (While f) up) ((placed (Some (u, true)) b ++ placed up k) ++ s) r (sym same) refl p.ends)

-- ---- an action

module _ (t : Tag) (d : Action) (k : Body) where
  after_action : (up : Parent) (r : List Placed) → Before up (action t d k) r → Before up k r
  after_action up r p = record {
    distinct = p.distinct.1;
    outside = λ v l is h. p.outside v l is (inr h);
    ends = ends_within (action t d k) k up r (λ v h. inr h) p.ends;
  }

back_action : (t : Tag) (d : Action) (k : Body) → ReadsBack k → ReadsBack (action t d k)
back_action t d k more up done r s p q same = absurd (never_ends done up (item t (content_by d) up) (placed up k ++ r) s same refl q.ends)
back_action t d k more up (action u d' m) r s p q same =
    let head : item t (content_by d) up ≡ item u (content_by d') up = cc in
    let tail : placed up k ++ r ≡ placed up m ++ s = cc in
    let tag : t ≡ u = ap (λ (i : Placed). i.tag) head in
    let does : d ≡ d' = content_inj d d' (ap (λ (i : Placed). i.content) head) in
    let rest = more up m r s (after_action t d k up r p) (after_action u d' m up s q) tail in
    let below : k ≡ m = rest.0 in
    let whole : action t d k ≡ action u d' m = cc in
    (whole, rest.1)
back_action t d k more up (branch u f a b m) r s p q same =
    let head : item t (content_by d) up ≡ item u (If f) up = cc in
    absurd (no_test d f (ap (λ (i : Placed). i.content) head))
back_action t d k more up (loop u f b m) r s p q same =
    let head : item t (content_by d) up ≡ item u (While f) up = cc in
    absurd (no_loop d f (ap (λ (i : Placed). i.content) head))

-- ---- a conditional

module _ (t : Tag) (e : Expr) (a b k : Body) where
  abbrev branch_tail : Parent → List Placed → List Placed
  branch_tail up r = placed (Some (t, true)) a ++ (placed (Some (t, false)) b ++ (placed up k ++ r))

  branch_is : (up : Parent) (r : List Placed) → (placed (Some (t, true)) a ++ (placed (Some (t, false)) b ++ placed up k)) ++ r ≡ branch_tail up r
  branch_is up r =
      let pa : List Placed = placed (Some (t, true)) a in
      let pb : List Placed = placed (Some (t, false)) b in
      let pk : List Placed = placed up k in
      append_assoc pa (pb ++ pk) r ∙ ap (λ (l : List Placed). pa ++ l) (append_assoc pb pk r)

  module _ (up : Parent) (r : List Placed) (p : Before up (branch t e a b k) r) where
    in_yes : Before (Some (t, true)) a (placed (Some (t, false)) b ++ (placed up k ++ r))
    in_yes = record {
      distinct = p.distinct.6;
      outside = outside_own t true a p.distinct.0;
      ends = ends_past a (Some (t, true)) b (Some (t, false)) (placed up k ++ r) (other_branch t) (outside_own t false a p.distinct.0)
          (ends_past a (Some (t, true)) k up r (λ is. p.outside t true is (inl refl)) (λ v l is h. p.outside v l is (inr (inl h)))
          (ends_inside (branch t e a b k) a up t true r (inl refl) (λ v h. inr (inl h)) p.ends));
    }

    in_no : Before (Some (t, false)) b (placed up k ++ r)
    in_no = record {
      distinct = p.distinct.7;
      outside = outside_own t false b p.distinct.1;
      ends = ends_past b (Some (t, false)) k up r (λ is. p.outside t false is (inl refl)) (λ v l is h. p.outside v l is (inr (inr (inl h))))
          (ends_inside (branch t e a b k) b up t false r (inl refl) (λ v h. inr (inr (inl h))) p.ends);
    }

    after_branch : Before up k r
    after_branch = record {
      distinct = p.distinct.8;
      outside = λ v l is h. p.outside v l is (inr (inr (inr h)));
      ends = ends_within (branch t e a b k) k up r (λ v h. inr (inr (inr h))) p.ends;
    }

abbrev SameBranches : Body → Body → Body → List Placed → Body → Body → Body → List Placed → Type 0
SameBranches a b k r c d m s = (a ≡ c) × (b ≡ d) × (k ≡ m) × (r ≡ s)

back_branch : (t : Tag) (e : Expr) (a b k : Body) → ReadsBack a → ReadsBack b → ReadsBack k → ReadsBack (branch t e a b k)
back_branch t e a b k in_a in_b in_k up done r s p q same =
    absurd (never_ends done up (item t (If e) up) ((placed (Some (t, true)) a ++ (placed (Some (t, false)) b ++ placed up k)) ++ r) s same refl q.ends)
back_branch t e a b k in_a in_b in_k up (action u d m) r s p q same =
    let head : item t (If e) up ≡ item u (content_by d) up = cc in
    absurd (no_test d e (sym (ap (λ (i : Placed). i.content) head)))
back_branch t e a b k in_a in_b in_k up (branch u f c d m) r s p q same =
    let head : item t (If e) up ≡ item u (If f) up = cc in
    let behind : (placed (Some (t, true)) a ++ (placed (Some (t, false)) b ++ placed up k)) ++ r ≡ (placed (Some (u, true)) c ++ (placed (Some (u, false)) d ++ placed up m)) ++ s = cc in
    let tail : branch_tail t e a b k up r ≡ branch_tail u f c d m up s = sym (branch_is t e a b k up r) ∙ behind ∙ branch_is u f c d m up s in
    let tag : t ≡ u = ap (λ (i : Placed). i.tag) head in
    let says : If e ≡ If f = ap (λ (i : Placed). i.content) head in
    let at_other : Before up (branch u f c d m) s → branch_tail t e a b k up r ≡ branch_tail u f c d m up s → SameBranches a b k r c d m s =
    subst (λ (v : Tag). Before up (branch v f c d m) s → branch_tail t e a b k up r ≡ branch_tail v f c d m up s → SameBranches a b k r c d m s) tag at_tag in
    let all = at_other q tail in
    let yes : a ≡ c = all.0 in
    let no : b ≡ d = all.1 in
    let rest : k ≡ m = all.2 in
    let whole : branch t e a b k ≡ branch u f c d m = cc in
    (whole, all.3)
  where
    at_tag : Before up (branch t f c d m) s → branch_tail t e a b k up r ≡ branch_tail t f c d m up s → SameBranches a b k r c d m s
    at_tag q tail =
        let yes = in_a (Some (t, true)) c (placed (Some (t, false)) b ++ (placed up k ++ r)) (placed (Some (t, false)) d ++ (placed up m ++ s)) (in_yes t e a b k up r p) (in_yes t f c d m up s q) tail in
        let no = in_b (Some (t, false)) d (placed up k ++ r) (placed up m ++ s) (in_no t e a b k up r p) (in_no t f c d m up s q) yes.1 in
        let rest = in_k up m r s (after_branch t e a b k up r p) (after_branch t f c d m up s q) no.1 in
        (yes.0, no.0, rest.0, rest.1)
back_branch t e a b k in_a in_b in_k up (loop u f c m) r s p q same =
    let head : item t (If e) up ≡ item u (While f) up = cc in
    let says : If e ≡ While f = ap (λ (i : Placed). i.content) head in
    absurd cc

-- ---- a loop

module _ (t : Tag) (e : Expr) (b k : Body) where
  abbrev loop_tail : Parent → List Placed → List Placed
  loop_tail up r = placed (Some (t, true)) b ++ (placed up k ++ r)

  module _ (up : Parent) (r : List Placed) (p : Before up (loop t e b k) r) where
    in_body : Before (Some (t, true)) b (placed up k ++ r)
    in_body = record {
      distinct = p.distinct.3;
      outside = outside_own t true b p.distinct.0;
      ends = ends_past b (Some (t, true)) k up r (λ is. p.outside t true is (inl refl)) (λ v l is h. p.outside v l is (inr (inl h)))
          (ends_inside (loop t e b k) b up t true r (inl refl) (λ v h. inr (inl h)) p.ends);
    }

    after_loop : Before up k r
    after_loop = record {
      distinct = p.distinct.4;
      outside = λ v l is h. p.outside v l is (inr (inr h));
      ends = ends_within (loop t e b k) k up r (λ v h. inr (inr h)) p.ends;
    }

abbrev SameLoops : Body → Body → List Placed → Body → Body → List Placed → Type 0
SameLoops b k r d m s = (b ≡ d) × (k ≡ m) × (r ≡ s)

back_loop : (t : Tag) (e : Expr) (b k : Body) → ReadsBack b → ReadsBack k → ReadsBack (loop t e b k)
back_loop t e b k in_b in_k up done r s p q same =
    absurd (never_ends done up (item t (While e) up) ((placed (Some (t, true)) b ++ placed up k) ++ r) s same refl q.ends)
back_loop t e b k in_b in_k up (action u d m) r s p q same =
    let head : item t (While e) up ≡ item u (content_by d) up = cc in
    absurd (no_loop d e (sym (ap (λ (i : Placed). i.content) head)))
back_loop t e b k in_b in_k up (branch u f c d m) r s p q same =
    let head : item t (While e) up ≡ item u (If f) up = cc in
    let says : While e ≡ If f = ap (λ (i : Placed). i.content) head in
    absurd cc
back_loop t e b k in_b in_k up (loop u f d m) r s p q same =
    let head : item t (While e) up ≡ item u (While f) up = cc in
    let behind : (placed (Some (t, true)) b ++ placed up k) ++ r ≡ (placed (Some (u, true)) d ++ placed up m) ++ s = cc in
    let tail : loop_tail t e b k up r ≡ loop_tail u f d m up s =
    sym (append_assoc (placed (Some (t, true)) b) (placed up k) r) ∙ behind ∙ append_assoc (placed (Some (u, true)) d) (placed up m) s in
    let tag : t ≡ u = ap (λ (i : Placed). i.tag) head in
    let says : While e ≡ While f = ap (λ (i : Placed). i.content) head in
    let at_other : Before up (loop u f d m) s → loop_tail t e b k up r ≡ loop_tail u f d m up s → SameLoops b k r d m s =
    subst (λ (v : Tag). Before up (loop v f d m) s → loop_tail t e b k up r ≡ loop_tail v f d m up s → SameLoops b k r d m s) tag at_tag in
    let all = at_other q tail in
    let body : b ≡ d = all.0 in
    let rest : k ≡ m = all.1 in
    let whole : loop t e b k ≡ loop u f d m = cc in
    (whole, all.2)
  where
    at_tag : Before up (loop t f d m) s → loop_tail t e b k up r ≡ loop_tail t f d m up s → SameLoops b k r d m s
    at_tag q tail =
        let body = in_b (Some (t, true)) d (placed up k ++ r) (placed up m ++ s) (in_body t e b k up r p) (in_body t f d m up s q) tail in
        let rest = in_k up m r s (after_loop t e b k up r p) (after_loop t f d m up s q) body.1 in
        (body.0, rest.0, rest.1)

read_back : (x : Body) → ReadsBack x
read_back done = back_done
read_back (action t d k) = back_action t d k (read_back k)
read_back (branch t e a b k) = back_branch t e a b k (read_back a) (read_back b) (read_back k)
read_back (loop t e b k) = back_loop t e b k (read_back b) (read_back k)

-- a program with distinct tags is read back from its placed parts
pub one_body : (x y : Body) → Distinct (skeleton x) → Distinct (skeleton y) → placed None x ≡ placed None y → x ≡ y
one_body x y dx dy same = (read_back x None y [] [] (alone x dx) (alone y dy) (ap (λ (l : List Placed). l ++ []) same)).0
  where
    alone : (z : Body) → Distinct (skeleton z) → Before None z []
    alone z dz = record { distinct = dz; outside = λ t l e h. absurd cc; ends = tt }
