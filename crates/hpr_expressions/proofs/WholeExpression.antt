-- What is spelled as an expression is read as one.
use Rattle.std.proofs.Common.{◌≡◌, ◌≢◌, ℕ, ◌+◌, ◌≤◌, ◌<◌, ◌^◌, List, [], ◌∷◌, ◌++◌, length, Option, Some, None, refl, sym, ap, add-zero, subst, ◌∙◌, append_assoc, arith}
use Rattle.std.proofs.lemmas.Bool.{lt-ltb}
use Rattle.std.proofs.lemmas.List.{append-nil}
use Rattle.hpr_terms.specs.declared.limits.TheConstants.{MAX_BRACKETS, MAX_OPERATORS}
use Rattle.hpr_terms.specs.declared.expr.Expr.{Expr}
use Rattle.hpr_terms.specs.declared.expr.Expr.TheVariants.{Num, Var, Prefix, Infix, Elem}
use Rattle.hpr_terms.specs.declared.expr.Unary.{Unary}
use Rattle.hpr_terms.specs.declared.expr.Binary.{Binary}
use Rattle.hpr_terms.specs.declared.token.Sign.TheVariants.{Open, Close, OpenSquare, CloseSquare}
use Rattle.hpr_terms.specs.declared.token.Token.{Token}
use Rattle.hpr_terms.specs.declared.token.Token.TheVariants.{Name, Number, Mark}
use Rattle.hpr_terms.specs.Names.{IsName, array_of}
use Rattle.hpr_terms.specs.Term.{Term, num, var, prefix, infix', element, operators}
use Rattle.hpr_terms.specs.TermOf.{term_of}
use Rattle.hpr_terms.specs.Private.ExprCode.{expr_of, expr_of-term_of}
use Rattle.hpr_syntax.specs.Grammar as grammar
use Rattle.hpr_syntax.specs.Grammar.{expr, conj, comp, sum, term, atom, expr_conj, conj_comp, comp_sum, sum_term, term_prefixed, prefixed_atom, Rule, Joins, Compares, Prefixes, SpellsTerm, SpellsExpr}
use Rattle.hpr_scan.specs.Steps.{runs}
use Rattle.hpr_expressions.specs.declared.pending.Left.{Left}
use Rattle.hpr_expressions.specs.declared.pending.Pending.{Pending}
use Rattle.hpr_expressions.specs.declared.expression.Outside.{Outside}
use Rattle.hpr_expressions.specs.declared.expression.Outside.TheVariants.{Round, Index}
use Rattle.hpr_expressions.specs.declared.expression.Context.{Context}
use Rattle.hpr_expressions.specs.declared.expression.Reading.{Reading}
use Rattle.hpr_expressions.specs.declared.expression.Reading.TheVariants.{Before, Named, After}
use Rattle.hpr_expressions.specs.Pending.{joined, prefixed, whole, left_of, with_or, with_and, with_comparison, with_sum, with_term, with_prefix}
use Rattle.hpr_expressions.specs.Expression.{start_after, counted, opened, indexed, read, ended}
use Rattle.hpr_expressions.specs.Read.{SpellsAfter, IsRead, IsReadAfter}
use Rattle.hpr_expressions.proofs.Named.{named_other}

term_of-expr_of : (v : Term) → term_of (expr_of v) ≡ v
term_of-expr_of (num n) = refl
term_of-expr_of (var x) = refl
term_of-expr_of (prefix op a) = refl
term_of-expr_of (infix' op a b) = refl
term_of-expr_of (element x i) = refl

infix_is : (op : Binary) (x y : Term) (e : Expr) → e ≡ expr_of y → joined (left_of op (expr_of x)) e ≡ Infix op x y
infix_is op x y e p =
    ap (joined (left_of op (expr_of x))) p ∙ ap (λ (a : Term). Infix op a (term_of (expr_of y))) (term_of-expr_of x) ∙ ap (Infix op x) (term_of-expr_of y)

abbrev context : List Outside → Pending → ℕ → Context
context os p n = record { outer = os; here = p; count = n }

abbrev pend : Option Left → Option Left → Option Left → Option Left → Option Left → List Unary → Pending
pend o a c s m ps = record { ors = o; ands = a; compared = c; summed = s; multiplied = m; prefixes = ps }

abbrev with_prefixes : Pending → List Unary → Pending
with_prefixes p ps = record { ors = p.ors; ands = p.ands; compared = p.compared; summed = p.summed; multiplied = p.multiplied; prefixes = ps }

read_one : (r n : Reading) (t : Token) (ts : List Token) → read r t ≡ Some n → runs read r (t ∷ ts) ≡ runs read n ts
read_one r n t ts e = rw e refl

counted_one : (c : Context) (p : Pending) → c.count < MAX_OPERATORS → counted c p ≡ Some (Before (context c.outer p (c.count + 1)))
counted_one c p lt = rw (lt-ltb _ _ lt) refl

prefix_step : (c : Context) (t : Token) (u : Unary) → Prefixes t u → c.count < MAX_OPERATORS → read (Before c) t ≡ Some (Before (context c.outer (with_prefix c.here u) (c.count + 1)))
unfolding read
prefix_step c t u grammar.minus lt = counted_one c _ lt
prefix_step c t u grammar.not lt = counted_one c _ lt

term_step : (c : Context) (v : Expr) (t : Token) (op : Binary) → Joins term t op → c.count < MAX_OPERATORS → read (After c v) t ≡ Some (Before (context c.outer (with_term c.here op v) (c.count + 1)))
unfolding read
term_step c v t op grammar.star lt = counted_one c _ lt
term_step c v t op grammar.slash lt = counted_one c _ lt
term_step c v t op grammar.percent lt = counted_one c _ lt

sum_step : (c : Context) (v : Expr) (t : Token) (op : Binary) → Joins sum t op → c.count < MAX_OPERATORS → read (After c v) t ≡ Some (Before (context c.outer (with_sum c.here op v) (c.count + 1)))
unfolding read
sum_step c v t op grammar.plus lt = counted_one c _ lt
sum_step c v t op grammar.minus lt = counted_one c _ lt

comp_step : (os : List Outside) (o a s m : Option Left) (ps : List Unary) (n : ℕ) (v : Expr) (t : Token) (op : Binary) → Compares t op → n < MAX_OPERATORS
    → read (After (context os (pend o a None s m ps) n) v) t ≡ Some (Before (context os (with_comparison (pend o a None s m ps) op v) (n + 1)))
unfolding read
comp_step os o a s m ps n v t op grammar.equal lt = counted_one (context os (pend o a None s m ps) n) (with_comparison (pend o a None s m ps) op v) lt
comp_step os o a s m ps n v t op grammar.differ lt = counted_one (context os (pend o a None s m ps) n) (with_comparison (pend o a None s m ps) op v) lt
comp_step os o a s m ps n v t op grammar.less lt = counted_one (context os (pend o a None s m ps) n) (with_comparison (pend o a None s m ps) op v) lt
comp_step os o a s m ps n v t op grammar.less_equal lt = counted_one (context os (pend o a None s m ps) n) (with_comparison (pend o a None s m ps) op v) lt
comp_step os o a s m ps n v t op grammar.greater lt = counted_one (context os (pend o a None s m ps) n) (with_comparison (pend o a None s m ps) op v) lt
comp_step os o a s m ps n v t op grammar.greater_equal lt = counted_one (context os (pend o a None s m ps) n) (with_comparison (pend o a None s m ps) op v) lt

and_step : (c : Context) (v : Expr) (t : Token) (op : Binary) → Joins conj t op → c.count < MAX_OPERATORS → read (After c v) t ≡ Some (Before (context c.outer (with_and c.here op v) (c.count + 1)))
unfolding read
and_step c v t op grammar.and lt = counted_one c _ lt

or_step : (c : Context) (v : Expr) (t : Token) (op : Binary) → Joins expr t op → c.count < MAX_OPERATORS → read (After c v) t ≡ Some (Before (context c.outer (with_or c.here op v) (c.count + 1)))
unfolding read
or_step c v t op grammar.or lt = counted_one c _ lt

open_step : (c : Context) → length c.outer < MAX_BRACKETS → read (Before c) (Mark Open) ≡ Some (Before (opened c))
unfolding read
open_step c lt = rw (lt-ltb _ _ lt) refl

close_step : (os : List Outside) (q p : Pending) (n : ℕ) (w : Expr) → read (After (context (Round q ∷ os) p n) w) (Mark Close) ≡ Some (After (context os q n) (whole p w))
unfolding read
close_step os q p n w = refl

literal_step : (c : Context) (k : ℕ) → k < 2 ^ 63 → read (Before c) (Number k) ≡ Some (After c (Num k))
unfolding read
literal_step c k le = rw (lt-ltb _ _ le) refl

name_step : (c : Context) (w : List ℕ) → read (Before c) (Name w) ≡ Some (Named c w)
unfolding read
name_step c w = refl

index_step : (c : Context) (w : List ℕ) → IsName w → length c.outer < MAX_BRACKETS → c.count < MAX_OPERATORS → read (Named c w) (Mark OpenSquare) ≡ Some (Before (indexed c w))
unfolding read
index_step c w is lt few = rw (is, lt-ltb _ _ lt, lt-ltb _ _ few) refl

index_closed_step : (os : List Outside) (q p : Pending) (n : ℕ) (x : List ℕ) (w : Expr) → read (After (context (Index q x ∷ os) p n) w) (Mark CloseSquare) ≡ Some (After (context os q n) (Elem x (term_of (whole p w))))
unfolding read
index_closed_step os q p n x w = refl

-- the readings behind an operand
data Stands (c : Context) : Expr → Reading → Type 0 where
  by_name : {x : List ℕ} → Stands c (Var x) (Named c x)
  by_value : {v : Expr} → Stands c v (After c v)

same_next : {c : Context} {v : Expr} {r : Reading} → Stands c v r → (t : Token) → t ≢ Mark OpenSquare → read r t ≡ read (After c v) t
unfolding read
same_next {c = c} (by_name {x = x}) t differs = named_other c x t differs
same_next by_value t differs = refl

same_end : {c : Context} {v : Expr} {r : Reading} → Stands c v r → ended r ≡ ended (After c v)
same_end by_name = refl
same_end by_value = refl

joins_no_index : {r : Rule} {t : Token} {op : Binary} → Joins r t op → t ≢ Mark OpenSquare
joins_no_index grammar.or e = absurd cc
joins_no_index grammar.and e = absurd cc
joins_no_index grammar.plus e = absurd cc
joins_no_index grammar.minus e = absurd cc
joins_no_index grammar.star e = absurd cc
joins_no_index grammar.slash e = absurd cc
joins_no_index grammar.percent e = absurd cc

compares_no_index : {t : Token} {op : Binary} → Compares t op → t ≢ Mark OpenSquare
compares_no_index grammar.equal e = absurd cc
compares_no_index grammar.differ e = absurd cc
compares_no_index grammar.less e = absurd cc
compares_no_index grammar.less_equal e = absurd cc
compares_no_index grammar.greater e = absurd cc
compares_no_index grammar.greater_equal e = absurd cc

record AtomRead (os : List Outside) (p : Pending) (n : ℕ) (ts : List Token) (x : Term) : Type 0 where
  at : Reading
  stands : Stands (context os p (n + operators x)) (expr_of x) at
  reading : (rest : List Token) → runs read (Before (context os p n)) (ts ++ rest) ≡ runs read at rest

record PrefixRead (os : List Outside) (p : Pending) (n : ℕ) (ts : List Token) (x : Term) : Type 0 where
  prefixes : List Unary
  last : Expr
  is : prefixed prefixes last ≡ prefixed p.prefixes (expr_of x)
  at : Reading
  stands : Stands (context os (with_prefixes p prefixes) (n + operators x)) last at
  reading : (rest : List Token) → runs read (Before (context os p n)) (ts ++ rest) ≡ runs read at rest

record TermRead (os : List Outside) (o a c s : Option Left) (n : ℕ) (ts : List Token) (x : Term) : Type 0 where
  m : Option Left
  ps : List Unary
  last : Expr
  is : joined m (prefixed ps last) ≡ expr_of x
  at : Reading
  stands : Stands (context os (pend o a c s m ps) (n + operators x)) last at
  reading : (rest : List Token) → runs read (Before (context os (pend o a c s None []) n)) (ts ++ rest) ≡ runs read at rest

record SumRead (os : List Outside) (o a c : Option Left) (n : ℕ) (ts : List Token) (x : Term) : Type 0 where
  s : Option Left
  m : Option Left
  ps : List Unary
  last : Expr
  is : joined s (joined m (prefixed ps last)) ≡ expr_of x
  at : Reading
  stands : Stands (context os (pend o a c s m ps) (n + operators x)) last at
  reading : (rest : List Token) → runs read (Before (context os (pend o a c None None []) n)) (ts ++ rest) ≡ runs read at rest

record CompRead (os : List Outside) (o a : Option Left) (n : ℕ) (ts : List Token) (x : Term) : Type 0 where
  c : Option Left
  s : Option Left
  m : Option Left
  ps : List Unary
  last : Expr
  is : joined c (joined s (joined m (prefixed ps last))) ≡ expr_of x
  at : Reading
  stands : Stands (context os (pend o a c s m ps) (n + operators x)) last at
  reading : (rest : List Token) → runs read (Before (context os (pend o a None None None []) n)) (ts ++ rest) ≡ runs read at rest

record ConjRead (os : List Outside) (o : Option Left) (n : ℕ) (ts : List Token) (x : Term) : Type 0 where
  a : Option Left
  c : Option Left
  s : Option Left
  m : Option Left
  ps : List Unary
  last : Expr
  is : joined a (joined c (joined s (joined m (prefixed ps last)))) ≡ expr_of x
  at : Reading
  stands : Stands (context os (pend o a c s m ps) (n + operators x)) last at
  reading : (rest : List Token) → runs read (Before (context os (pend o None None None None []) n)) (ts ++ rest) ≡ runs read at rest

record ExprRead (os : List Outside) (n : ℕ) (ts : List Token) (x : Term) : Type 0 where
  o : Option Left
  a : Option Left
  c : Option Left
  s : Option Left
  m : Option Left
  ps : List Unary
  last : Expr
  is : joined o (joined a (joined c (joined s (joined m (prefixed ps last))))) ≡ expr_of x
  at : Reading
  stands : Stands (context os (pend o a c s m ps) (n + operators x)) last at
  reading : (rest : List Token) → runs read (Before (context os (pend None None None None None []) n)) (ts ++ rest) ≡ runs read at rest

mutual
  atom_read : {d : ℕ} {ts : List Token} {x : Term} → SpellsTerm atom d ts x → (os : List Outside) (p : Pending) (n : ℕ) → n + operators x ≤ MAX_OPERATORS → length os + d ≡ MAX_BRACKETS → AtomRead os p n ts x
  atom_read (grammar.literal {n = k} le) os p n fits deep = record {
    at = After (context os p n) (Num k);
    stands = rw add-zero by_value;
    reading = λ rest. read_one (Before (context os p n)) (After (context os p n) (Num k)) (Number k) rest (literal_step (context os p n) k le);
  }
  atom_read (grammar.name {x = w}) os p n fits deep = record {
    at = Named (context os p n) w;
    stands = rw add-zero by_name;
    reading = λ rest. read_one (Before (context os p n)) (Named (context os p n) w) (Name w) rest (name_step (context os p n) w);
  }
  atom_read (grammar.bracket {d = d} {ts = ts} {x = x} s) os p n fits deep =
      let k = expr_read s (Round p ∷ os) n fits (omega (arith, deep)) in
      let q = pend k.o k.a k.c k.s k.m k.ps in
      let m = n + operators x in
      record {
        at = After (context os p m) (expr_of x);
        stands = by_value;
        reading = λ rest.
            read_one (Before (context os p n)) (Before (opened (context os p n))) (Mark Open) ((ts ++ (Mark Close ∷ [])) ++ rest) (open_step (context os p n) (omega (arith, deep)))
            ∙ ap (runs read (Before (opened (context os p n)))) (append_assoc ts (Mark Close ∷ []) rest)
            ∙ k.reading (Mark Close ∷ rest)
            ∙ read_one k.at (After (context os p m) (whole q k.last)) (Mark Close) rest (same_next k.stands (Mark Close) (λ e. cc) ∙ close_step os p q m k.last)
            ∙ ap (λ (y : Expr). runs read (After (context os p m) y) rest) k.is;
      }
  atom_read (grammar.indexed {d = d} {x = w} {ts = ts} {i = i} is s) os p n fits deep =
      let k = expr_read s (Index p (array_of w) ∷ os) (n + 1) (omega (arith, fits)) (omega (arith, deep)) in
      let q = pend k.o k.a k.c k.s k.m k.ps in
      let m = (n + 1) + operators i in
      let total : m ≡ n + (operators i + 1) = omega arith in
      let value : Elem (array_of w) (term_of (whole q k.last)) ≡ Elem (array_of w) i = ap (λ (y : Expr). Elem (array_of w) (term_of y)) k.is ∙ ap (Elem (array_of w)) (term_of-expr_of i) in
      record {
        at = After (context os p m) (Elem (array_of w) i);
        stands = subst (λ (j : ℕ). Stands (context os p j) (Elem (array_of w) i) (After (context os p m) (Elem (array_of w) i))) total by_value;
        reading = λ rest.
            read_one (Before (context os p n)) (Named (context os p n) w) (Name w) (Mark OpenSquare ∷ ((ts ++ (Mark CloseSquare ∷ [])) ++ rest)) (name_step (context os p n) w)
            ∙ read_one (Named (context os p n) w) (Before (indexed (context os p n) w)) (Mark OpenSquare) ((ts ++ (Mark CloseSquare ∷ [])) ++ rest) (index_step (context os p n) w is (omega (arith, deep)) (omega (arith, fits)))
            ∙ ap (runs read (Before (indexed (context os p n) w))) (append_assoc ts (Mark CloseSquare ∷ []) rest)
            ∙ k.reading (Mark CloseSquare ∷ rest)
            ∙ read_one k.at (After (context os p m) (Elem (array_of w) (term_of (whole q k.last)))) (Mark CloseSquare) rest (same_next k.stands (Mark CloseSquare) (λ e. cc) ∙ index_closed_step os p q m (array_of w) k.last)
            ∙ ap (λ (y : Expr). runs read (After (context os p m) y) rest) value;
      }
  atom_read (grammar.one on _) os p n fits deep = elim on [ ]
  atom_read (grammar.joined on _ _ _) os p n fits deep = elim on [ ]

  prefix_read : {d : ℕ} {ts : List Token} {x : Term} → SpellsTerm grammar.prefixed d ts x → (os : List Outside) (p : Pending) (n : ℕ) → n + operators x ≤ MAX_OPERATORS → length os + d ≡ MAX_BRACKETS → PrefixRead os p n ts x
  prefix_read (grammar.one {x = x} prefixed_atom s) os p n fits deep =
      let k = atom_read s os p n fits deep in
      record { prefixes = p.prefixes; last = expr_of x; is = refl; at = k.at; stands = k.stands; reading = k.reading }
  prefix_read (grammar.signed {a = a} {t = t} {op = u} {x = x} b s) os p n fits deep =
      let k = prefix_read s os (with_prefix p u) (n + 1) (omega (arith, fits)) deep in
      let total : (n + 1) + operators x ≡ n + (operators x + 1) = omega arith in
      record {
        prefixes = k.prefixes;
        last = k.last;
        is = k.is ∙ ap (λ (y : Term). prefixed p.prefixes (Prefix u y)) (term_of-expr_of x);
        at = k.at;
        stands = subst (λ (j : ℕ). Stands (context os (with_prefixes p k.prefixes) j) k.last k.at) total k.stands;
        reading = λ rest.
            read_one (Before (context os p n)) (Before (context os (with_prefix p u) (n + 1))) t (a ++ rest) (prefix_step (context os p n) t u b (omega (arith, fits)))
            ∙ k.reading rest;
      }
  prefix_read (grammar.joined on j _ _) os p n fits deep = elim j [ ]

  term_read : {d : ℕ} {ts : List Token} {x : Term} → SpellsTerm term d ts x → (os : List Outside) (o a c s : Option Left) (n : ℕ) → n + operators x ≤ MAX_OPERATORS → length os + d ≡ MAX_BRACKETS → TermRead os o a c s n ts x
  term_read (grammar.one term_prefixed s) os o a c s' n fits deep =
      let k = prefix_read s os (pend o a c s' None []) n fits deep in
      record { m = None; ps = k.prefixes; last = k.last; is = k.is; at = k.at; stands = k.stands; reading = k.reading }
  term_read (grammar.joined {a = l} {b = r} {t = t} {op = op} {x = x} {y = y} term_prefixed j sp sq) os o a c s' n fits deep =
      let k = term_read sp os o a c s' n (omega (arith, fits)) deep in
      let m = n + operators x in
      let q = prefix_read sq os (pend o a c s' (left_of op (expr_of x)) []) (m + 1) (omega (arith, fits)) deep in
      let total : (m + 1) + operators y ≡ n + (operators x + operators y + 1) = omega arith in
      record {
        m = left_of op (expr_of x);
        ps = q.prefixes;
        last = q.last;
        is = infix_is op x y _ q.is;
        at = q.at;
        stands = subst (λ (j : ℕ). Stands (context os (pend o a c s' (left_of op (expr_of x)) q.prefixes) j) q.last q.at) total q.stands;
        reading = λ rest.
            ap (runs read (Before (context os (pend o a c s' None []) n))) (append_assoc l (t ∷ r) rest)
            ∙ k.reading (t ∷ (r ++ rest))
            ∙ read_one k.at (Before (context os (with_term (pend o a c s' k.m k.ps) op k.last) (m + 1))) t (r ++ rest) (same_next k.stands t (joins_no_index j) ∙ term_step (context os (pend o a c s' k.m k.ps) m) k.last t op j (omega (arith, fits)))
            ∙ ap (λ (v : Expr). runs read (Before (context os (pend o a c s' (left_of op v) []) (m + 1))) (r ++ rest)) k.is
            ∙ q.reading rest;
      }

  sum_read : {d : ℕ} {ts : List Token} {x : Term} → SpellsTerm sum d ts x → (os : List Outside) (o a c : Option Left) (n : ℕ) → n + operators x ≤ MAX_OPERATORS → length os + d ≡ MAX_BRACKETS → SumRead os o a c n ts x
  sum_read (grammar.one sum_term sp) os o a c n fits deep =
      let k = term_read sp os o a c None n fits deep in
      record { s = None; m = k.m; ps = k.ps; last = k.last; is = k.is; at = k.at; stands = k.stands; reading = k.reading }
  sum_read (grammar.joined {a = l} {b = r} {t = t} {op = op} {x = x} {y = y} sum_term j sp sq) os o a c n fits deep =
      let k = sum_read sp os o a c n (omega (arith, fits)) deep in
      let m = n + operators x in
      let q = term_read sq os o a c (left_of op (expr_of x)) (m + 1) (omega (arith, fits)) deep in
      let total : (m + 1) + operators y ≡ n + (operators x + operators y + 1) = omega arith in
      record {
        s = left_of op (expr_of x);
        m = q.m;
        ps = q.ps;
        last = q.last;
        is = infix_is op x y _ q.is;
        at = q.at;
        stands = subst (λ (j : ℕ). Stands (context os (pend o a c (left_of op (expr_of x)) q.m q.ps) j) q.last q.at) total q.stands;
        reading = λ rest.
            ap (runs read (Before (context os (pend o a c None None []) n))) (append_assoc l (t ∷ r) rest)
            ∙ k.reading (t ∷ (r ++ rest))
            ∙ read_one k.at (Before (context os (with_sum (pend o a c k.s k.m k.ps) op k.last) (m + 1))) t (r ++ rest) (same_next k.stands t (joins_no_index j) ∙ sum_step (context os (pend o a c k.s k.m k.ps) m) k.last t op j (omega (arith, fits)))
            ∙ ap (λ (v : Expr). runs read (Before (context os (pend o a c (left_of op v) None []) (m + 1))) (r ++ rest)) k.is
            ∙ q.reading rest;
      }

  comp_read : {d : ℕ} {ts : List Token} {x : Term} → SpellsTerm comp d ts x → (os : List Outside) (o a : Option Left) (n : ℕ) → n + operators x ≤ MAX_OPERATORS → length os + d ≡ MAX_BRACKETS → CompRead os o a n ts x
  comp_read (grammar.one comp_sum sp) os o a n fits deep =
      let k = sum_read sp os o a None n fits deep in
      record { c = None; s = k.s; m = k.m; ps = k.ps; last = k.last; is = k.is; at = k.at; stands = k.stands; reading = k.reading }
  comp_read (grammar.compared {a = l} {b = r} {t = t} {op = op} {x = x} {y = y} j sp sq) os o a n fits deep =
      let k = sum_read sp os o a None n (omega (arith, fits)) deep in
      let m = n + operators x in
      let q = sum_read sq os o a (left_of op (expr_of x)) (m + 1) (omega (arith, fits)) deep in
      let total : (m + 1) + operators y ≡ n + (operators x + operators y + 1) = omega arith in
      record {
        c = left_of op (expr_of x);
        s = q.s;
        m = q.m;
        ps = q.ps;
        last = q.last;
        is = infix_is op x y _ q.is;
        at = q.at;
        stands = subst (λ (j : ℕ). Stands (context os (pend o a (left_of op (expr_of x)) q.s q.m q.ps) j) q.last q.at) total q.stands;
        reading = λ rest.
            ap (runs read (Before (context os (pend o a None None None []) n))) (append_assoc l (t ∷ r) rest)
            ∙ k.reading (t ∷ (r ++ rest))
            ∙ read_one k.at (Before (context os (with_comparison (pend o a None k.s k.m k.ps) op k.last) (m + 1))) t (r ++ rest) (same_next k.stands t (compares_no_index j) ∙ comp_step os o a k.s k.m k.ps m k.last t op j (omega (arith, fits)))
            ∙ ap (λ (v : Expr). runs read (Before (context os (pend o a (left_of op v) None None []) (m + 1))) (r ++ rest)) k.is
            ∙ q.reading rest;
      }
  comp_read (grammar.joined on j _ _) os o a n fits deep = elim j [ ]

  conj_read : {d : ℕ} {ts : List Token} {x : Term} → SpellsTerm conj d ts x → (os : List Outside) (o : Option Left) (n : ℕ) → n + operators x ≤ MAX_OPERATORS → length os + d ≡ MAX_BRACKETS → ConjRead os o n ts x
  conj_read (grammar.one conj_comp sp) os o n fits deep =
      let k = comp_read sp os o None n fits deep in
      record { a = None; c = k.c; s = k.s; m = k.m; ps = k.ps; last = k.last; is = k.is; at = k.at; stands = k.stands; reading = k.reading }
  conj_read (grammar.joined {a = l} {b = r} {t = t} {op = op} {x = x} {y = y} conj_comp j sp sq) os o n fits deep =
      let k = conj_read sp os o n (omega (arith, fits)) deep in
      let m = n + operators x in
      let q = comp_read sq os o (left_of op (expr_of x)) (m + 1) (omega (arith, fits)) deep in
      let total : (m + 1) + operators y ≡ n + (operators x + operators y + 1) = omega arith in
      record {
        a = left_of op (expr_of x);
        c = q.c;
        s = q.s;
        m = q.m;
        ps = q.ps;
        last = q.last;
        is = infix_is op x y _ q.is;
        at = q.at;
        stands = subst (λ (j : ℕ). Stands (context os (pend o (left_of op (expr_of x)) q.c q.s q.m q.ps) j) q.last q.at) total q.stands;
        reading = λ rest.
            ap (runs read (Before (context os (pend o None None None None []) n))) (append_assoc l (t ∷ r) rest)
            ∙ k.reading (t ∷ (r ++ rest))
            ∙ read_one k.at (Before (context os (with_and (pend o k.a k.c k.s k.m k.ps) op k.last) (m + 1))) t (r ++ rest) (same_next k.stands t (joins_no_index j) ∙ and_step (context os (pend o k.a k.c k.s k.m k.ps) m) k.last t op j (omega (arith, fits)))
            ∙ ap (λ (v : Expr). runs read (Before (context os (pend o (left_of op v) None None None []) (m + 1))) (r ++ rest)) k.is
            ∙ q.reading rest;
      }

  expr_read : {d : ℕ} {ts : List Token} {x : Term} → SpellsTerm expr d ts x → (os : List Outside) (n : ℕ) → n + operators x ≤ MAX_OPERATORS → length os + d ≡ MAX_BRACKETS → ExprRead os n ts x
  expr_read (grammar.one expr_conj sp) os n fits deep =
      let k = conj_read sp os None n fits deep in
      record { o = None; a = k.a; c = k.c; s = k.s; m = k.m; ps = k.ps; last = k.last; is = k.is; at = k.at; stands = k.stands; reading = k.reading }
  expr_read (grammar.joined {a = l} {b = r} {t = t} {op = op} {x = x} {y = y} expr_conj j sp sq) os n fits deep =
      let k = expr_read sp os n (omega (arith, fits)) deep in
      let m = n + operators x in
      let q = conj_read sq os (left_of op (expr_of x)) (m + 1) (omega (arith, fits)) deep in
      let total : (m + 1) + operators y ≡ n + (operators x + operators y + 1) = omega arith in
      record {
        o = left_of op (expr_of x);
        a = q.a;
        c = q.c;
        s = q.s;
        m = q.m;
        ps = q.ps;
        last = q.last;
        is = infix_is op x y _ q.is;
        at = q.at;
        stands = subst (λ (j : ℕ). Stands (context os (pend (left_of op (expr_of x)) q.a q.c q.s q.m q.ps) j) q.last q.at) total q.stands;
        reading = λ rest.
            ap (runs read (Before (context os (pend None None None None None []) n))) (append_assoc l (t ∷ r) rest)
            ∙ k.reading (t ∷ (r ++ rest))
            ∙ read_one k.at (Before (context os (with_or (pend k.o k.a k.c k.s k.m k.ps) op k.last) (m + 1))) t (r ++ rest) (same_next k.stands t (joins_no_index j) ∙ or_step (context os (pend k.o k.a k.c k.s k.m k.ps) m) k.last t op j (omega (arith, fits)))
            ∙ ap (λ (v : Expr). runs read (Before (context os (pend (left_of op v) None None None None []) (m + 1))) (r ++ rest)) k.is
            ∙ q.reading rest;
      }

-- a whole expression leads to a reading that ends with it
pub expression_read_after : (k : ℕ) (ts : List Token) (e : Expr) → SpellsAfter k ts e → IsReadAfter k ts e
expression_read_after k ts e h =
    let r = expr_read h.0 [] k h.1 refl in
    (r.at, ap (runs read (start_after k)) (sym (append-nil ts)) ∙ r.reading [], same_end r.stands ∙ ap Some (r.is ∙ expr_of-term_of e))

pub expression_read : (ts : List Token) (e : Expr) → SpellsExpr ts e → IsRead ts e
expression_read ts e h = expression_read_after 0 ts e (h.0, omega (arith, h.1))
