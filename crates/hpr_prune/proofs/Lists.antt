-- What is left of a block and of names, taken from the front: what is left of the rest goes behind what is left already.
--
-- in_front stmts rest == these parts and then the block
use Rattle.std.proofs.Common.{◌≡◌, ℕ, suc, ◌+◌, ◌<◌, arith, List, [], ◌∷◌, ◌++◌, length, get_or, drop, refl, sym, subst}
use Rattle.std.proofs.Math.Seq.{drop-cons}
use Rattle.hpr_terms.specs.declared.tag.Tag.{Tag}
use Rattle.hpr_terms.specs.declared.expr.Expr.{Expr}
use Rattle.hpr_syntax.specs.declared.tree.Stmt.{Stmt}
use Rattle.hpr_syntax.specs.declared.tree.Stmt.TheVariants.{Assign, If, While, Write, Store}
use Rattle.hpr_syntax.specs.Body.{Body, done}
use Rattle.hpr_syntax.specs.BodyOf.{before, body_of}
use Rattle.hpr_syntax.specs.Parts.{tag_of}
use Rattle.hpr_syntax.specs.Rows.{content_of}
use Rattle.hpr_graph.specs.declared.vertex.Vertex.{Vertex}
use Rattle.hpr_graph.specs.declared.vertex.Vertex.TheVariants.{Part, Final}
use Rattle.hpr_prune.specs.Programs.{BlockLeft, ended, action_kept, action_out, branch_kept, branch_out, loop_kept, loop_out, NamesLeft, none, name_kept, name_out}
use Rattle.hpr_prune.specs.Private.PartLeft.{IsPartLeft}

abbrev pub in_front : List Stmt → Body → Body
in_front [] rest = rest
in_front (s ∷ stmts) rest = before s (in_front stmts rest)

pub in_front_more : (xs : List Stmt) (s : Stmt) (rest : Body) → in_front (xs ++ s ∷ []) rest ≡ in_front xs (before s rest)
in_front_more [] s rest = refl
in_front_more (x ∷ xs) s rest = rw (in_front_more xs s rest) refl

pub in_front_none : (xs : List Stmt) → in_front xs done ≡ body_of xs
in_front_none [] = refl
in_front_none (x ∷ xs) = rw (in_front_none xs) refl

drop_here : {X : Type 0} (xs : List X) (i : ℕ) (x : X) → i < length xs → x ≡ get_or xs i x → drop i xs ≡ x ∷ drop (i + 1) xs
drop_here xs i x within is =
    let next : suc i ≡ i + 1 = omega arith in
    subst (λ y. drop i xs ≡ y ∷ drop (i + 1) xs) (sym is) (subst (λ n. drop i xs ≡ get_or xs i x ∷ drop n xs) next (drop-cons xs i x within))

-- the part has no blocks
abbrev IsOther : Stmt → Type 0
IsOther s = ((t : Tag) (e : Expr) (a b : Body) → ¬ (s ≡ If t e a b)) × ((t : Tag) (e : Expr) (b : Body) → ¬ (s ≡ While t e b))

module _ (V : Vertex → Type 0) where
  abbrev Has : Stmt → Type 0
  Has s = V (Part (tag_of s) (content_of s))

  -- a part whose vertex is in V
  pub branch_stays : (s : Stmt) (t : Tag) (e e' : Expr) (a b a' b' : Body) → s ≡ If t e a b → e' ≡ e → Has s → BlockLeft V a a' → BlockLeft V b b'
      → IsPartLeft V s (If t e' a' b')
  branch_stays s t e e' a b a' b' is same has l m =
      subst (λ (x : Stmt). Has x → IsPartLeft V x (If t e' a' b')) (sym is)
      (subst (λ (x : Expr). Has (If t e a b) → IsPartLeft V (If t e a b) (If t x a' b')) (sym same) (λ h k k' r. branch_kept h l m r)) has

  pub loop_stays : (s : Stmt) (t : Tag) (e e' : Expr) (b b' : Body) → s ≡ While t e b → e' ≡ e → Has s → BlockLeft V b b' → IsPartLeft V s (While t e' b')
  loop_stays s t e e' b b' is same has l =
      subst (λ (x : Stmt). Has x → IsPartLeft V x (While t e' b')) (sym is)
      (subst (λ (x : Expr). Has (While t e b) → IsPartLeft V (While t e b) (While t x b')) (sym same) (λ h k k' r. loop_kept h l r)) has

  pub other_stays : (s : Stmt) → IsOther s → Has s → IsPartLeft V s s
  other_stays (If t e a b) other has = absurd (other.0 t e a b refl)
  other_stays (While t e b) other has = absurd (other.1 t e b refl)
  other_stays (Assign t x e) other has = λ k k' r. action_kept has r
  other_stays (Write t x e) other has = λ k k' r. action_kept has r
  other_stays (Store t x i e) other has = λ k k' r. action_kept has r

  -- a part whose vertex isn't
  pub part_goes : (s : Stmt) → ¬ Has s → (k k' : Body) → BlockLeft V k k' → BlockLeft V (before s k) k'
  part_goes (If t e a b) not k k' r = branch_out not r
  part_goes (While t e b) not k k' r = loop_out not r
  part_goes (Assign t x e) not k k' r = action_out not r
  part_goes (Write t x e) not k k' r = action_out not r
  part_goes (Store t x i e) not k k' r = action_out not r

  -- of a block, these parts are left of those before the place i
  abbrev pub IsLeftTo : Body → List Stmt → ℕ → List Stmt → Type 0
  IsLeftTo body stmts i left = (rest : Body) → BlockLeft V (body_of (drop i stmts)) rest → BlockLeft V body (in_front left rest)

  module _ (body : Body) (stmts : List Stmt) (i : ℕ) (s : Stmt) (left : List Stmt) (within : i < length stmts) (is : s ≡ get_or stmts i s) (old : IsLeftTo body stmts i left) where
    items : drop i stmts ≡ s ∷ drop (i + 1) stmts
    items = drop_here stmts i s within is

    all_left : (rest : Body) → BlockLeft V (before s (body_of (drop (i + 1) stmts))) rest → BlockLeft V body (in_front left rest)
    all_left rest r = old rest (subst (λ (xs : List Stmt). BlockLeft V (body_of xs) rest) (sym items) r)

    pub left_more : (s' : Stmt) → IsPartLeft V s s' → IsLeftTo body stmts (i + 1) (left ++ s' ∷ [])
    left_more s' l = λ rest r. subst (BlockLeft V body) (sym (in_front_more left s' rest)) (all_left (before s' rest) (l _ rest r))

    pub left_same : ¬ Has s → IsLeftTo body stmts (i + 1) left
    left_same not = λ rest r. all_left rest (part_goes s not _ rest r)

  pub all_parts : (body : Body) (stmts : List Stmt) (i : ℕ) (left : List Stmt) → drop i stmts ≡ [] → IsLeftTo body stmts i left → BlockLeft V body (body_of left)
  all_parts body stmts i left e old =
      subst (BlockLeft V body) (in_front_none left) (old done (subst (λ (xs : List Stmt). BlockLeft V (body_of xs) done) (sym e) ended))

  -- the same of names
  abbrev pub AreLeftTo : List (List ℕ) → ℕ → List (List ℕ) → Type 0
  AreLeftTo names i left = (rest : List (List ℕ)) → NamesLeft V (drop i names) rest → NamesLeft V names (left ++ rest)

  module _ (names : List (List ℕ)) (i : ℕ) (x : List ℕ) (left : List (List ℕ)) (within : i < length names) (is : x ≡ get_or names i x) (old : AreLeftTo names i left) where
    later : drop i names ≡ x ∷ drop (i + 1) names
    later = drop_here names i x within is

    from_here : (rest : List (List ℕ)) → NamesLeft V (x ∷ drop (i + 1) names) rest → NamesLeft V names (left ++ rest)
    from_here rest r = old rest (subst (λ (xs : List (List ℕ)). NamesLeft V xs rest) (sym later) r)

    pub names_more : V (Final x) → AreLeftTo names (i + 1) (left ++ x ∷ [])
    names_more has = λ rest r. subst (NamesLeft V names) (sym (append_one left x rest)) (from_here (x ∷ rest) (name_kept has r))
      where
        append_one : (xs : List (List ℕ)) (y : List ℕ) (ys : List (List ℕ)) → (xs ++ y ∷ []) ++ ys ≡ xs ++ y ∷ ys
        append_one [] y ys = refl
        append_one (z ∷ xs) y ys = rw (append_one xs y ys) refl

    pub names_same : ¬ V (Final x) → AreLeftTo names (i + 1) left
    names_same not = λ rest r. from_here rest (name_out not r)

  pub all_names : (names : List (List ℕ)) (i : ℕ) (left : List (List ℕ)) → drop i names ≡ [] → left ++ [] ≡ left → AreLeftTo names i left → NamesLeft V names left
  all_names names i left e same old =
      subst (NamesLeft V names) same (old [] (subst (λ (xs : List (List ℕ)). NamesLeft V xs []) (sym e) none))
