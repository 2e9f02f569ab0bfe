-- What was read so far of an expression, said of each reading.
use Rattle.std.proofs.Common.{◌≡◌, ℕ, zero, suc, ◌+◌, ◌≤◌, ◌&&◌, ◌<◌, ◌^◌, List, [], ◌∷◌, ◌++◌, length, nat_lt, Option, Some, None, refl, sym, ap, subst, ◌∙◌, append_assoc, arith}
use Rattle.std.proofs.lemmas.Bool.{ltb-true, and_parts}
use Rattle.std.proofs.lemmas.List.{append-nil}
use Rattle.hpr_terms.specs.declared.limits.TheConstants.{MAX_BRACKETS, MAX_OPERATORS}
use Rattle.hpr_terms.specs.declared.expr.Expr.{Expr}
use Rattle.hpr_terms.specs.declared.expr.Expr.TheVariants.{Num, Var, Prefix, Elem}
use Rattle.hpr_terms.specs.declared.expr.Unary.{Unary}
use Rattle.hpr_terms.specs.declared.expr.Unary.TheVariants as unary
use Rattle.hpr_terms.specs.declared.expr.Binary.{Binary}
use Rattle.hpr_terms.specs.declared.expr.Binary.TheVariants as binary
use Rattle.hpr_terms.specs.declared.keyword.Keyword.TheVariants.{And, Or, Not}
use Rattle.hpr_terms.specs.declared.token.Sign.TheVariants.{Open, Close, OpenSquare, CloseSquare, Plus, Minus, Star, Slash, Percent, Equal, Differ, Less, LessEqual, Greater, GreaterEqual}
use Rattle.hpr_terms.specs.declared.token.Token.{Token}
use Rattle.hpr_terms.specs.declared.token.Token.TheVariants.{Word, Name, Number, Mark}
use Rattle.hpr_terms.specs.Names.{IsName, is_name, array_of}
use Rattle.hpr_terms.specs.Term.{operators}
use Rattle.hpr_terms.specs.TermOf.{term_of}
use Rattle.hpr_terms.proofs.Facts.{some_inj}
use Rattle.hpr_syntax.specs.Grammar as grammar
use Rattle.hpr_syntax.specs.Grammar.{Rule, expr, conj, comp, sum, term, atom, On, expr_conj, conj_comp, comp_sum, sum_term, term_prefixed, prefixed_atom, Joins, Compares, Prefixes, SpellsTerm}
use Rattle.hpr_scan.proofs.SoundText.{guard_is}
use Rattle.hpr_expressions.specs.declared.pending.Left.{Left}
use Rattle.hpr_expressions.specs.declared.pending.Pending.{Pending}
use Rattle.hpr_expressions.specs.declared.expression.Outside.{Outside}
use Rattle.hpr_expressions.specs.declared.expression.Outside.TheVariants.{Round, Index}
use Rattle.hpr_expressions.specs.declared.expression.Context.{Context}
use Rattle.hpr_expressions.specs.declared.expression.Reading.{Reading}
use Rattle.hpr_expressions.specs.declared.expression.Reading.TheVariants.{Before, Named, After}
use Rattle.hpr_expressions.specs.Pending.{nothing_pending, joined, prefixed, last_term, last_sum, last_comparison, last_and, whole, with_or, with_and, with_comparison, with_sum, with_term, with_prefix}
use Rattle.hpr_expressions.specs.Expression.{start_after, counted_in, counted, compare_next, close_next, index_closed, opened, may_index, indexed, index_next, operand_next, operator_next, named_next, read, ended, ended_in}
use Rattle.hpr_expressions.specs.Read.{SpellsAfter}

abbrev pub Spelled : Rule → ℕ → List Token → Expr → Type 0
Spelled r d ts e = SpellsTerm r d ts (term_of e)

-- ---- the tokens of what waits

abbrev pub LeftIs : Rule → ℕ → Option Left → List Token → Type 0
LeftIs r d None ts = ts ≡ []
LeftIs r d (Some l) ts = (a : List Token) × (t : Token) × Joins r t l.op × Spelled r d a l.left × (ts ≡ a ++ (t ∷ []))

abbrev pub ComparedIs : ℕ → Option Left → List Token → Type 0
ComparedIs d None ts = ts ≡ []
ComparedIs d (Some l) ts = (a : List Token) × (t : Token) × Compares t l.op × Spelled sum d a l.left × (ts ≡ a ++ (t ∷ []))

abbrev pub PrefixesAre : List Unary → List Token → Type 0
PrefixesAre [] ts = ts ≡ []
PrefixesAre (p ∷ ps) ts = (a : List Token) × (t : Token) × PrefixesAre ps a × Prefixes t p × (ts ≡ a ++ (t ∷ []))

pub record PendingIs (d : ℕ) (p : Pending) (ts : List Token) : Type 0 where
  pub or_tokens : List Token
  pub and_tokens : List Token
  pub comp_tokens : List Token
  pub sum_tokens : List Token
  pub term_tokens : List Token
  pub prefix_tokens : List Token
  pub ors : LeftIs expr d p.ors or_tokens
  pub ands : LeftIs conj d p.ands and_tokens
  pub compared : ComparedIs d p.compared comp_tokens
  pub summed : LeftIs sum d p.summed sum_tokens
  pub multiplied : LeftIs term d p.multiplied term_tokens
  pub prefixes : PrefixesAre p.prefixes prefix_tokens
  pub parts : ts ≡ or_tokens ++ (and_tokens ++ (comp_tokens ++ (sum_tokens ++ (term_tokens ++ prefix_tokens))))

left_is : {r s : Rule} (d : ℕ) (o : Option Left) (v : Expr) (a b : List Token) → On r s → LeftIs r d o a → Spelled s d b v → Spelled r d (a ++ b) (joined o v)
left_is d None v a b on h s = rw h (grammar.one on s)
left_is d (Some l) v a b on h s = rw (h.4, append_assoc) (grammar.joined on h.2 h.3 s)

compared_is : (d : ℕ) (o : Option Left) (v : Expr) (a b : List Token) → ComparedIs d o a → Spelled sum d b v → Spelled comp d (a ++ b) (joined o v)
compared_is d None v a b h s = rw h (grammar.one comp_sum s)
compared_is d (Some l) v a b h s = rw (h.4, append_assoc) (grammar.compared h.2 h.3 s)

prefix_is : (d : ℕ) (ps : List Unary) (v : Expr) (a b : List Token) → PrefixesAre ps a → Spelled grammar.prefixed d b v → Spelled grammar.prefixed d (a ++ b) (prefixed ps v)
prefix_is d [] v a b h s = rw h s
prefix_is d (p ∷ ps) v a b h s = rw (h.4, append_assoc) (prefix_is d ps (Prefix p (term_of v)) h.0 (h.1 ∷ b) h.2 (grammar.signed h.3 s))

module _ (d : ℕ) (p : Pending) (ts : List Token) (h : PendingIs d p ts) (v : Expr) (b : List Token) (s : Spelled atom d b v) where
  term_is : Spelled term d (h.term_tokens ++ (h.prefix_tokens ++ b)) (last_term p v)
  term_is = left_is d p.multiplied (prefixed p.prefixes v) h.term_tokens (h.prefix_tokens ++ b) term_prefixed h.multiplied (prefix_is d p.prefixes v h.prefix_tokens b h.prefixes (grammar.one prefixed_atom s))

  sum_is : Spelled sum d (h.sum_tokens ++ (h.term_tokens ++ (h.prefix_tokens ++ b))) (last_sum p v)
  sum_is = left_is d p.summed (last_term p v) h.sum_tokens _ sum_term h.summed term_is

  comp_is : Spelled comp d (h.comp_tokens ++ (h.sum_tokens ++ (h.term_tokens ++ (h.prefix_tokens ++ b)))) (last_comparison p v)
  comp_is = compared_is d p.compared (last_sum p v) h.comp_tokens _ h.compared sum_is

  conj_is : Spelled conj d (h.and_tokens ++ (h.comp_tokens ++ (h.sum_tokens ++ (h.term_tokens ++ (h.prefix_tokens ++ b))))) (last_and p v)
  conj_is = left_is d p.ands (last_comparison p v) h.and_tokens _ conj_comp h.ands comp_is

  whole_is : Spelled expr d (ts ++ b) (whole p v)
  whole_is = subst (λ (x : List Token). Spelled expr d x (whole p v)) regroup (left_is d p.ors (last_and p v) h.or_tokens _ expr_conj h.ors conj_is)
    where
      regroup : h.or_tokens ++ (h.and_tokens ++ (h.comp_tokens ++ (h.sum_tokens ++ (h.term_tokens ++ (h.prefix_tokens ++ b))))) ≡ ts ++ b
      regroup = rw h.parts (simp append_assoc)

-- ---- how many operators wait

abbrev pub left_count : Option Left → ℕ
left_count None = 0
left_count (Some l) = 1 + operators (term_of l.left)

abbrev pub pending_count : Pending → ℕ
pending_count p = left_count p.ors + left_count p.ands + left_count p.compared + left_count p.summed + left_count p.multiplied + length p.prefixes

abbrev pub outer_count : List Outside → ℕ
outer_count [] = 0
outer_count (Round p ∷ os) = pending_count p + outer_count os
outer_count (Index p w ∷ os) = pending_count p + 1 + outer_count os

joined_count : (o : Option Left) (v : Expr) → operators (term_of (joined o v)) ≡ left_count o + operators (term_of v)
joined_count None v = omega arith
joined_count (Some l) v = omega arith

prefix_count : (ps : List Unary) (v : Expr) → operators (term_of (prefixed ps v)) ≡ length ps + operators (term_of v)
prefix_count [] v = omega arith
prefix_count (p ∷ ps) v = omega (arith, prefix_count ps (Prefix p (term_of v)))

term_count : (p : Pending) (v : Expr) → operators (term_of (last_term p v)) ≡ left_count p.multiplied + length p.prefixes + operators (term_of v)
term_count p v = omega (arith, joined_count p.multiplied (prefixed p.prefixes v), prefix_count p.prefixes v)

sum_count : (p : Pending) (v : Expr) → operators (term_of (last_sum p v)) ≡ left_count p.summed + left_count p.multiplied + length p.prefixes + operators (term_of v)
sum_count p v = omega (arith, joined_count p.summed (last_term p v), term_count p v)

comp_count : (p : Pending) (v : Expr) → operators (term_of (last_comparison p v)) ≡ left_count p.compared + left_count p.summed + left_count p.multiplied + length p.prefixes + operators (term_of v)
comp_count p v = omega (arith, joined_count p.compared (last_sum p v), sum_count p v)

conj_count : (p : Pending) (v : Expr) → operators (term_of (last_and p v)) ≡ left_count p.ands + left_count p.compared + left_count p.summed + left_count p.multiplied + length p.prefixes + operators (term_of v)
conj_count p v = omega (arith, joined_count p.ands (last_comparison p v), comp_count p v)

whole_count : (p : Pending) (v : Expr) → operators (term_of (whole p v)) ≡ pending_count p + operators (term_of v)
whole_count p v = omega (arith, joined_count p.ors (last_and p v), conj_count p v)

-- ---- readings

abbrev pub OuterIs : ℕ → List Outside → List Token → Type 0
OuterIs d [] ts = (d ≡ MAX_BRACKETS) × (ts ≡ [])
OuterIs d (Round p ∷ os) ts = (a : List Token) × (b : List Token) × OuterIs (suc d) os a × PendingIs (suc d) p b × (ts ≡ a ++ (b ++ (Mark Open ∷ [])))
OuterIs d (Index p w ∷ os) ts =
    (a : List Token) × (b : List Token) × (x : List ℕ) × IsName x × (w ≡ array_of x) × OuterIs (suc d) os a × PendingIs (suc d) p b × (ts ≡ a ++ (b ++ (Name x ∷ Mark OpenSquare ∷ [])))

pub record ContextIs (d : ℕ) (c : Context) (ts : List Token) : Type 0 where
  pub around : List Token
  pub inside : List Token
  pub outer : OuterIs d c.outer around
  pub here : PendingIs d c.here inside
  pub parts : ts ≡ around ++ inside

-- k operators stand before the expression that count together with its own
module _ (k : ℕ) where
  pub record BeforeIs (c : Context) (ts : List Token) : Type 0 where
    pub left : ℕ
    pub context : ContextIs left c ts
    pub count : c.count ≡ k + outer_count c.outer + pending_count c.here
    pub fits : c.count ≤ MAX_OPERATORS

  pub record AfterIs (c : Context) (v : Expr) (ts : List Token) : Type 0 where
    pub left : ℕ
    pub past : List Token
    pub last : List Token
    pub context : ContextIs left c past
    pub operand : Spelled atom left last v
    pub parts : ts ≡ past ++ last
    pub count : c.count ≡ k + outer_count c.outer + pending_count c.here + operators (term_of v)
    pub fits : c.count ≤ MAX_OPERATORS

  abbrev pub NamedIs : Context → List ℕ → List Token → Type 0
  NamedIs c x ts = (past : List Token) × BeforeIs c past × (ts ≡ past ++ (Name x ∷ []))

  abbrev pub ReadingIs : Reading → List Token → Type 0
  ReadingIs (Before c) ts = BeforeIs c ts
  ReadingIs (Named c x) ts = NamedIs c x ts
  ReadingIs (After c v) ts = AfterIs c v ts

  -- a new operator: its waiting operands, where they are right, make the new context right
  counted_is : (c : Context) (d : ℕ) (p : Pending) (around inside ts : List Token) (n : Reading) → OuterIs d c.outer around → PendingIs d p inside → ts ≡ around ++ inside → c.count + 1 ≡ k + outer_count c.outer + pending_count p
      → counted c p ≡ Some n → ReadingIs n ts
  counted_is c d p around inside ts n o h e adds r =
      let g = guard_is (nat_lt c.count MAX_OPERATORS) (Before (record { outer = c.outer; here = p; count = c.count + 1 })) n r in
      let lt = ltb-true c.count MAX_OPERATORS g.0 in
      let made : BeforeIs (record { outer = c.outer; here = p; count = c.count + 1 }) ts = record { left = d; context = record { around = around; inside = inside; outer = o; here = h; parts = e }; count = adds; fits = omega (arith, lt) } in
      subst (λ (x : Reading). ReadingIs x ts) g.1 made

  none_pending : (d : ℕ) → PendingIs d nothing_pending []
  none_pending d = record { or_tokens = []; and_tokens = []; comp_tokens = []; sum_tokens = []; term_tokens = []; prefix_tokens = []; ors = refl; ands = refl; compared = refl; summed = refl; multiplied = refl; prefixes = refl; parts = refl }

  prefix_read : (c : Context) (t : Token) (u : Unary) (n : Reading) (ts : List Token) → Prefixes t u → BeforeIs c ts → counted c (with_prefix c.here u) ≡ Some n → ReadingIs n (ts ++ t ∷ [])
  prefix_read c t u n ts is h r =
      let p = h.context.here in
      counted_is c h.left (with_prefix c.here u) h.context.around (h.context.inside ++ t ∷ []) (ts ++ t ∷ []) n h.context.outer
      (record {
        or_tokens = p.or_tokens;
        and_tokens = p.and_tokens;
        comp_tokens = p.comp_tokens;
        sum_tokens = p.sum_tokens;
        term_tokens = p.term_tokens;
        prefix_tokens = p.prefix_tokens ++ t ∷ [];
        ors = p.ors;
        ands = p.ands;
        compared = p.compared;
        summed = p.summed;
        multiplied = p.multiplied;
        prefixes = (p.prefix_tokens, t, p.prefixes, is, refl);
        parts = rw p.parts (simp append_assoc);
      })
      (rw h.context.parts (append_assoc h.context.around h.context.inside (t ∷ []))) (omega (arith, h.count)) r

  term_read : (c : Context) (v : Expr) (t : Token) (op : Binary) (n : Reading) (ts : List Token) → Joins term t op → AfterIs c v ts → counted c (with_term c.here op v) ≡ Some n → ReadingIs n (ts ++ t ∷ [])
  term_read c v t op n ts is h r =
      let p = h.context.here in
      let left = term_is h.left c.here h.context.inside p v h.last h.operand in
      let tokens = p.term_tokens ++ (p.prefix_tokens ++ h.last) in
      let inside = p.or_tokens ++ (p.and_tokens ++ (p.comp_tokens ++ (p.sum_tokens ++ ((tokens ++ t ∷ []) ++ [])))) in
      counted_is c h.left (with_term c.here op v) h.context.around inside (ts ++ t ∷ []) n h.context.outer
      (record {
        or_tokens = p.or_tokens;
        and_tokens = p.and_tokens;
        comp_tokens = p.comp_tokens;
        sum_tokens = p.sum_tokens;
        term_tokens = tokens ++ t ∷ [];
        prefix_tokens = [];
        ors = p.ors;
        ands = p.ands;
        compared = p.compared;
        summed = p.summed;
        multiplied = (tokens, t, is, left, refl);
        prefixes = refl;
        parts = refl;
      })
      (rw (h.parts, h.context.parts, p.parts) (simp (append_assoc, append-nil))) (omega (arith, h.count, term_count c.here v)) r

  sum_read : (c : Context) (v : Expr) (t : Token) (op : Binary) (n : Reading) (ts : List Token) → Joins sum t op → AfterIs c v ts → counted c (with_sum c.here op v) ≡ Some n → ReadingIs n (ts ++ t ∷ [])
  sum_read c v t op n ts is h r =
      let p = h.context.here in
      let left = sum_is h.left c.here h.context.inside p v h.last h.operand in
      let tokens = p.sum_tokens ++ (p.term_tokens ++ (p.prefix_tokens ++ h.last)) in
      let inside = p.or_tokens ++ (p.and_tokens ++ (p.comp_tokens ++ ((tokens ++ t ∷ []) ++ []))) in
      counted_is c h.left (with_sum c.here op v) h.context.around inside (ts ++ t ∷ []) n h.context.outer
      (record {
        or_tokens = p.or_tokens;
        and_tokens = p.and_tokens;
        comp_tokens = p.comp_tokens;
        sum_tokens = tokens ++ t ∷ [];
        term_tokens = [];
        prefix_tokens = [];
        ors = p.ors;
        ands = p.ands;
        compared = p.compared;
        summed = (tokens, t, is, left, refl);
        multiplied = refl;
        prefixes = refl;
        parts = refl;
      })
      (rw (h.parts, h.context.parts, p.parts) (simp (append_assoc, append-nil))) (omega (arith, h.count, sum_count c.here v)) r

  comparison_read : (c : Context) (v : Expr) (t : Token) (op : Binary) (n : Reading) (ts : List Token) → Compares t op → c.here.compared ≡ None → AfterIs c v ts → counted c (with_comparison c.here op v) ≡ Some n → ReadingIs n (ts ++ t ∷ [])
  comparison_read c v t op n ts is none h r =
      let p = h.context.here in
      let left = sum_is h.left c.here h.context.inside p v h.last h.operand in
      let nothing : ComparedIs h.left None p.comp_tokens = subst (λ (o : Option Left). ComparedIs h.left o p.comp_tokens) none p.compared in
      let zero_count : left_count c.here.compared ≡ 0 = rw none refl in
      let tokens = p.sum_tokens ++ (p.term_tokens ++ (p.prefix_tokens ++ h.last)) in
      let inside = p.or_tokens ++ (p.and_tokens ++ ((tokens ++ t ∷ []) ++ [])) in
      counted_is c h.left (with_comparison c.here op v) h.context.around inside (ts ++ t ∷ []) n h.context.outer
      (record {
        or_tokens = p.or_tokens;
        and_tokens = p.and_tokens;
        comp_tokens = tokens ++ t ∷ [];
        sum_tokens = [];
        term_tokens = [];
        prefix_tokens = [];
        ors = p.ors;
        ands = p.ands;
        compared = (tokens, t, is, left, refl);
        summed = refl;
        multiplied = refl;
        prefixes = refl;
        parts = refl;
      })
      (rw (h.parts, h.context.parts, p.parts, nothing) (simp (append_assoc, append-nil))) (omega (arith, h.count, zero_count, sum_count c.here v)) r

  compare_next_is : (o : Option Left) (c : Context) (v : Expr) (t : Token) (op : Binary) (n : Reading) (ts : List Token) → Compares t op → c.here.compared ≡ o → AfterIs c v ts → compare_next o c op v ≡ Some n → ReadingIs n (ts ++ t ∷ [])
  compare_next_is None c v t op n ts is e h r = comparison_read c v t op n ts is e h r
  compare_next_is (Some l) c v t op n ts is e h r = absurd cc

  and_read : (c : Context) (v : Expr) (t : Token) (op : Binary) (n : Reading) (ts : List Token) → Joins conj t op → AfterIs c v ts → counted c (with_and c.here op v) ≡ Some n → ReadingIs n (ts ++ t ∷ [])
  and_read c v t op n ts is h r =
      let p = h.context.here in
      let left = conj_is h.left c.here h.context.inside p v h.last h.operand in
      let tokens = p.and_tokens ++ (p.comp_tokens ++ (p.sum_tokens ++ (p.term_tokens ++ (p.prefix_tokens ++ h.last)))) in
      let inside = p.or_tokens ++ ((tokens ++ t ∷ []) ++ []) in
      counted_is c h.left (with_and c.here op v) h.context.around inside (ts ++ t ∷ []) n h.context.outer
      (record {
        or_tokens = p.or_tokens;
        and_tokens = tokens ++ t ∷ [];
        comp_tokens = [];
        sum_tokens = [];
        term_tokens = [];
        prefix_tokens = [];
        ors = p.ors;
        ands = (tokens, t, is, left, refl);
        compared = refl;
        summed = refl;
        multiplied = refl;
        prefixes = refl;
        parts = refl;
      })
      (rw (h.parts, h.context.parts, p.parts) (simp (append_assoc, append-nil))) (omega (arith, h.count, conj_count c.here v)) r

  or_read : (c : Context) (v : Expr) (t : Token) (op : Binary) (n : Reading) (ts : List Token) → Joins expr t op → AfterIs c v ts → counted c (with_or c.here op v) ≡ Some n → ReadingIs n (ts ++ t ∷ [])
  or_read c v t op n ts is h r =
      let left = whole_is h.left c.here h.context.inside h.context.here v h.last h.operand in
      let tokens = h.context.inside ++ h.last in
      counted_is c h.left (with_or c.here op v) h.context.around (tokens ++ t ∷ []) (ts ++ t ∷ []) n h.context.outer
      (record {
        or_tokens = tokens ++ t ∷ [];
        and_tokens = [];
        comp_tokens = [];
        sum_tokens = [];
        term_tokens = [];
        prefix_tokens = [];
        ors = (tokens, t, is, left, refl);
        ands = refl;
        compared = refl;
        summed = refl;
        multiplied = refl;
        prefixes = refl;
        parts = sym (append-nil (tokens ++ t ∷ []));
      })
      (rw (h.parts, h.context.parts) (simp append_assoc)) (omega (arith, h.count, whole_count c.here v)) r

  outer_length : (d : ℕ) (os : List Outside) (ts : List Token) → OuterIs d os ts → d + length os ≡ MAX_BRACKETS
  outer_length d [] ts h = omega (arith, h.0)
  outer_length d (Round p ∷ os) ts h = omega (arith, outer_length (suc d) os h.0 h.2)
  outer_length d (Index p w ∷ os) ts h = omega (arith, outer_length (suc d) os h.0 h.5)

  opened_is : (d : ℕ) (c : Context) (ts : List Token) → length c.outer < MAX_BRACKETS → ContextIs d c ts → (left : ℕ) × ContextIs left (opened c) (ts ++ (Mark Open ∷ []))
  opened_is zero c ts lt h = absurd (omega (arith, outer_length zero c.outer h.around h.outer))
  opened_is (suc d) c ts lt h = (
    d,
    record {
      around = ts ++ (Mark Open ∷ []);
      inside = [];
      outer = (h.around, h.inside, h.outer, h.here, ap (λ (x : List Token). x ++ (Mark Open ∷ [])) h.parts ∙ append_assoc h.around h.inside (Mark Open ∷ []));
      here = none_pending d;
      parts = sym (append-nil (ts ++ (Mark Open ∷ [])));
    },
  )

  indexed_is : (d : ℕ) (c : Context) (x : List ℕ) (ts : List Token) → length c.outer < MAX_BRACKETS → IsName x → ContextIs d c ts → (left : ℕ) × ContextIs left (indexed c x) (ts ++ (Name x ∷ Mark OpenSquare ∷ []))
  indexed_is zero c x ts lt is h = absurd (omega (arith, outer_length zero c.outer h.around h.outer))
  indexed_is (suc d) c x ts lt is h = (
    d,
    record {
      around = ts ++ (Name x ∷ Mark OpenSquare ∷ []);
      inside = [];
      outer = (h.around, h.inside, x, is, refl, h.outer, h.here, ap (λ (y : List Token). y ++ (Name x ∷ Mark OpenSquare ∷ [])) h.parts ∙ append_assoc h.around h.inside (Name x ∷ Mark OpenSquare ∷ []));
      here = none_pending d;
      parts = sym (append-nil (ts ++ (Name x ∷ Mark OpenSquare ∷ [])));
    },
  )

  -- `[` behind the name that was read
  index_is : (c : Context) (x : List ℕ) (n : Reading) (past : List Token) → BeforeIs c past → index_next c x ≡ Some n → ReadingIs n (past ++ (Name x ∷ Mark OpenSquare ∷ []))
  index_is c x n past h e =
      let g = guard_is (may_index c x) (Before (indexed c x)) n e in
      let both = and_parts (is_name x && nat_lt (length c.outer) MAX_BRACKETS) (nat_lt c.count MAX_OPERATORS) g.0 in
      let first = and_parts (is_name x) (nat_lt (length c.outer) MAX_BRACKETS) both.0 in
      let few = ltb-true c.count MAX_OPERATORS both.1 in
      let o = indexed_is h.left c x past (ltb-true _ _ first.1) first.0 h.context in
      let made : BeforeIs (indexed c x) (past ++ (Name x ∷ Mark OpenSquare ∷ [])) = record { left = o.0; context = o.1; count = omega (arith, h.count); fits = omega (arith, few) } in
      subst (λ (r : Reading). ReadingIs r (past ++ (Name x ∷ Mark OpenSquare ∷ []))) g.1 made

  operand_is : (c : Context) (t : Token) (n : Reading) (ts : List Token) → BeforeIs c ts → operand_next c t ≡ Some n → ReadingIs n (ts ++ t ∷ [])
  operand_is c (Number i) n ts h e =
      let g = guard_is (nat_lt i (2 ^ 63)) (After c (Num i)) n e in
      let made : AfterIs c (Num i) (ts ++ (Number i ∷ [])) = record { left = h.left; past = ts; last = Number i ∷ []; context = h.context; operand = grammar.literal (ltb-true i (2 ^ 63) g.0); parts = refl; count = omega (arith, h.count); fits = h.fits } in
      subst (λ (r : Reading). ReadingIs r (ts ++ Number i ∷ [])) g.1 made
  operand_is c (Name w) n ts h e =
      let made : NamedIs c w (ts ++ (Name w ∷ [])) = (ts, h, refl) in
      subst (λ (r : Reading). ReadingIs r (ts ++ Name w ∷ [])) (some_inj _ _ e) made
  operand_is c (Mark Open) n ts h e =
      let g = guard_is (nat_lt (length c.outer) MAX_BRACKETS) (Before (opened c)) n e in
      let o = opened_is h.left c ts (ltb-true _ _ g.0) h.context in
      let made : BeforeIs (opened c) (ts ++ (Mark Open ∷ [])) = record { left = o.0; context = o.1; count = omega (arith, h.count); fits = h.fits } in
      subst (λ (r : Reading). ReadingIs r (ts ++ Mark Open ∷ [])) g.1 made
  operand_is c (Mark Minus) n ts h e = prefix_read c (Mark Minus) unary.Neg n ts grammar.minus h e
  operand_is c (Word Not) n ts h e = prefix_read c (Word Not) unary.Not n ts grammar.not h e
  operand_is c _ n ts h e = absurd cc

  close_next_is : (os : List Outside) (here : Pending) (count : ℕ) (v : Expr) (ts : List Token) (n : Reading) → AfterIs (record { outer = os; here = here; count = count }) v ts → close_next os here count v ≡ Some n → ReadingIs n (ts ++ Mark Close ∷ [])
  close_next_is [] here count v ts n h r = absurd cc
  close_next_is (Index p w ∷ os) here count v ts n h r = absurd cc
  close_next_is (Round p ∷ os) here count v ts n h r =
      let o = h.context.outer in
      let w = whole_is h.left here h.context.inside h.context.here v h.last h.operand in
      let made : AfterIs (record { outer = os; here = p; count = count }) (whole here v) (ts ++ Mark Close ∷ []) = record {
        left = suc h.left;
        past = o.0 ++ o.1;
        last = Mark Open ∷ ((h.context.inside ++ h.last) ++ (Mark Close ∷ []));
        context = record { around = o.0; inside = o.1; outer = o.2; here = o.3; parts = refl };
        operand = grammar.bracket w;
        parts = rw (h.parts, h.context.parts, o.4) (simp append_assoc);
        count = omega (arith, h.count, whole_count here v);
        fits = h.fits;
      } in
      subst (λ (x : Reading). ReadingIs x (ts ++ Mark Close ∷ [])) (some_inj _ _ r) made

  index_closed_is : (os : List Outside) (here : Pending) (count : ℕ) (v : Expr) (ts : List Token) (n : Reading) → AfterIs (record { outer = os; here = here; count = count }) v ts → index_closed os here count v ≡ Some n → ReadingIs n (ts ++ Mark CloseSquare ∷ [])
  index_closed_is [] here count v ts n h r = absurd cc
  index_closed_is (Round p ∷ os) here count v ts n h r = absurd cc
  index_closed_is (Index p w ∷ os) here count v ts n h r =
      let o = h.context.outer in
      let i = whole here v in
      let s = whole_is h.left here h.context.inside h.context.here v h.last h.operand in
      let tokens = Name o.2 ∷ Mark OpenSquare ∷ ((h.context.inside ++ h.last) ++ (Mark CloseSquare ∷ [])) in
      let made : AfterIs (record { outer = os; here = p; count = count }) (Elem w (term_of i)) (ts ++ Mark CloseSquare ∷ []) = record {
        left = suc h.left;
        past = o.0 ++ o.1;
        last = tokens;
        context = record { around = o.0; inside = o.1; outer = o.5; here = o.6; parts = refl };
        operand = subst (λ (y : List ℕ). Spelled atom (suc h.left) tokens (Elem y (term_of i))) (sym o.4) (grammar.indexed o.3 s);
        parts = rw (h.parts, h.context.parts, o.7) (simp append_assoc);
        count = omega (arith, h.count, whole_count here v);
        fits = h.fits;
      } in
      subst (λ (x : Reading). ReadingIs x (ts ++ Mark CloseSquare ∷ [])) (some_inj _ _ r) made

  operator_is : (c : Context) (v : Expr) (t : Token) (n : Reading) (ts : List Token) → AfterIs c v ts → operator_next c v t ≡ Some n → ReadingIs n (ts ++ t ∷ [])
  operator_is c v (Word Or) n ts h e = or_read c v _ binary.Or n ts grammar.or h e
  operator_is c v (Word And) n ts h e = and_read c v _ binary.And n ts grammar.and h e
  operator_is c v (Mark Equal) n ts h e = compare_next_is c.here.compared c v _ binary.Equal n ts grammar.equal refl h e
  operator_is c v (Mark Differ) n ts h e = compare_next_is c.here.compared c v _ binary.Differ n ts grammar.differ refl h e
  operator_is c v (Mark Less) n ts h e = compare_next_is c.here.compared c v _ binary.Less n ts grammar.less refl h e
  operator_is c v (Mark LessEqual) n ts h e = compare_next_is c.here.compared c v _ binary.LessEqual n ts grammar.less_equal refl h e
  operator_is c v (Mark Greater) n ts h e = compare_next_is c.here.compared c v _ binary.Greater n ts grammar.greater refl h e
  operator_is c v (Mark GreaterEqual) n ts h e = compare_next_is c.here.compared c v _ binary.GreaterEqual n ts grammar.greater_equal refl h e
  operator_is c v (Mark Plus) n ts h e = sum_read c v _ binary.Add n ts grammar.plus h e
  operator_is c v (Mark Minus) n ts h e = sum_read c v _ binary.Sub n ts grammar.minus h e
  operator_is c v (Mark Star) n ts h e = term_read c v _ binary.Mul n ts grammar.star h e
  operator_is c v (Mark Slash) n ts h e = term_read c v _ binary.Div n ts grammar.slash h e
  operator_is c v (Mark Percent) n ts h e = term_read c v _ binary.Rem n ts grammar.percent h e
  operator_is c v (Mark Close) n ts h e = close_next_is c.outer c.here c.count v ts n h e
  operator_is c v (Mark CloseSquare) n ts h e = index_closed_is c.outer c.here c.count v ts n h e
  operator_is c v _ n ts h e = absurd cc

  -- a name is an operand like any other
  name_is : (c : Context) (x : List ℕ) (ts : List Token) → NamedIs c x ts → AfterIs c (Var x) ts
  name_is c x ts h = record { left = h.1.left; past = h.0; last = Name x ∷ []; context = h.1.context; operand = grammar.name; parts = h.2; count = omega (arith, h.1.count); fits = h.1.fits }

  named_is : (c : Context) (x : List ℕ) (t : Token) (n : Reading) (ts : List Token) → NamedIs c x ts → named_next c x t ≡ Some n → ReadingIs n (ts ++ t ∷ [])
  named_is c x (Mark OpenSquare) n ts h e = rw (h.2, append_assoc) (index_is c x n h.0 h.1 e)
  named_is c x t n ts h e = operator_is c (Var x) t n ts (name_is c x ts h) e

  pub read_is : (r : Reading) (t : Token) (n : Reading) (ts : List Token) → ReadingIs r ts → read r t ≡ Some n → ReadingIs n (ts ++ t ∷ [])
  unfolding read
  read_is (Before c) t n ts h e = operand_is c t n ts h e
  read_is (Named c x) t n ts h e = named_is c x t n ts h e
  read_is (After c v) t n ts h e = operator_is c v t n ts h e

  pub start_is : k ≤ MAX_OPERATORS → ReadingIs (start_after k) []
  start_is le = record {
    left = MAX_BRACKETS;
    context = record { around = []; inside = []; outer = (refl, refl); here = none_pending MAX_BRACKETS; parts = refl };
    count = omega arith;
    fits = le;
  }

  ended_in_is : (os : List Outside) (here : Pending) (count : ℕ) (v e : Expr) (ts : List Token) → AfterIs (record { outer = os; here = here; count = count }) v ts → ended_in os here v ≡ Some e → SpellsAfter k ts e
  ended_in_is [] here count v e ts h q =
      let o = h.context.outer in
      let w : Spelled expr h.left (h.context.inside ++ h.last) (whole here v) = whole_is h.left here h.context.inside h.context.here v h.last h.operand in
      let all : SpellsTerm expr MAX_BRACKETS (h.context.inside ++ h.last) (term_of (whole here v)) =
      subst (λ (d : ℕ). Spelled expr d (h.context.inside ++ h.last) (whole here v)) o.0 w in
      let same : ts ≡ h.context.inside ++ h.last = rw (h.parts, h.context.parts, o.1) refl in
      let few : k + operators (term_of (whole here v)) ≤ MAX_OPERATORS = omega (arith, h.count, h.fits, whole_count here v) in
      subst (λ (x : Expr). SpellsAfter k ts x) (some_inj _ _ q) (subst (λ (x : List Token). SpellsTerm expr MAX_BRACKETS x (term_of (whole here v))) (sym same) all, few)
  ended_in_is (o ∷ os) here count v e ts h q = absurd cc

  pub ended_is : (r : Reading) (e : Expr) (ts : List Token) → ReadingIs r ts → ended r ≡ Some e → SpellsAfter k ts e
  ended_is (Before c) e ts h q = absurd cc
  ended_is (Named c x) e ts h q = ended_in_is c.outer c.here c.count (Var x) e ts (name_is c x ts h) q
  ended_is (After c v) e ts h q = ended_in_is c.outer c.here c.count v e ts h q

  count_in_is : (os : List Outside) (here : Pending) (count : ℕ) (v e : Expr) (ts : List Token) → AfterIs (record { outer = os; here = here; count = count }) v ts → ended_in os here v ≡ Some e → count ≡ k + operators (term_of e)
  count_in_is [] here count v e ts h q = subst (λ (x : Expr). count ≡ k + operators (term_of x)) (some_inj _ _ q) (omega (arith, h.count, whole_count here v))
  count_in_is (o ∷ os) here count v e ts h q = absurd cc

  -- a reading that can end has counted the operators before the expression and its own
  pub count_is : (r : Reading) (e : Expr) (ts : List Token) → ReadingIs r ts → ended r ≡ Some e → counted_in r ≡ k + operators (term_of e)
  count_is (Before c) e ts h q = absurd cc
  count_is (Named c x) e ts h q = count_in_is c.outer c.here c.count (Var x) e ts (name_is c x ts h) q
  count_is (After c v) e ts h q = count_in_is c.outer c.here c.count v e ts h q
