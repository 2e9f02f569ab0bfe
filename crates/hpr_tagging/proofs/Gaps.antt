-- Three lexemes tell where a part has no tag.
use Rattle.std.proofs.Common.{◌≡◌, ℕ, suc, ◌+◌, Bool, true, false, cond, ltb, List, [], ◌∷◌, ◌++◌, append_assoc, refl, sym, ap, subst, ◌∙◌, arith}
use Rattle.std.specs.List.{list_all}
use Rattle.std.proofs.lemmas.List.Folds.{list_all-append}
use Rattle.hpr_terms.proofs.Facts.{and_both, and_false}
use Rattle.hpr_terms.specs.declared.limits.TheConstants.{TAG_NUMBERS}
use Rattle.hpr_terms.specs.declared.tag.Tag.{Tag}
use Rattle.hpr_terms.specs.declared.expr.Binary.{Binary}
use Rattle.hpr_terms.specs.declared.expr.Unary.{Unary}
use Rattle.hpr_terms.specs.declared.keyword.Keyword.TheVariants as keyword
use Rattle.hpr_terms.specs.declared.token.Sign.TheVariants as sign
use Rattle.hpr_terms.specs.declared.token.Token.{Token}
use Rattle.hpr_terms.specs.declared.token.Token.TheVariants.{Word, Name, Number, Mark}
use Rattle.hpr_terms.specs.Term.{Term}
use Rattle.hpr_syntax.specs.Action.{Action}
use Rattle.hpr_syntax.specs.Body.{Body, action}
use Rattle.hpr_syntax.specs.Grammar as grammar
use Rattle.hpr_syntax.specs.Grammar.{Rule, IsTag, SpellsExpr, SpellsTerm, SpellsParts, Labels, Joins, Compares, Prefixes, tagged}
use Rattle.hpr_tagging.specs.declared.lexemes.Kind.{Kind}
use Rattle.hpr_tagging.specs.declared.lexemes.Kind.TheVariants as kind
use Rattle.hpr_tagging.specs.Tagging.{is_colon, begins_part, lacks_tag}
use Rattle.hpr_tagging.specs.Gaps.{tag_tokens, next_tag, MayLabel, stands, lacks, SpellsAction, assignment, write, store, SpellsGapped, nothing, simple, conditional, conditional_else, while_loop, kind_at, before_last, last_kind, labelled, filled, may_begin, IsFilled}

-- ---- where no tag is put in

no_gap : (x y z : Kind) → may_begin x y ≡ false → lacks_tag x y z ≡ false
no_gap x kind.Opens z e = absurd cc
no_gap x (kind.Number n) z e = rw e refl
no_gap x _ z e = refl

no_part : (x y z : Kind) → begins_part z ≡ false → lacks_tag x y z ≡ false
no_part x kind.Opens z e = e
no_part x (kind.Number n) z e = rw e (and_false (is_colon x))
no_part x _ z e = refl

gap_here : (x y z : Kind) → may_begin x y ≡ true → begins_part z ≡ true → lacks_tag x y z ≡ true
gap_here x kind.Opens z e f = f
gap_here x (kind.Number n) z e f = rw (e, f) refl
gap_here x _ z e f = absurd cc

-- a token in front of which nothing is put
over : (a n : ℕ) (x y : Kind) (t : Token) (ts : List Token) → lacks_tag x y (kind_at t) ≡ false
    → filled a n x y (t ∷ ts) ≡ t ∷ filled a n (before_last y t) (last_kind t) ts
over a n x y t ts e =
    let none : n + 0 ≡ n = omega arith in
    ap (λ (v : Bool). labelled a n v t ++ filled a (n + cond v 1 0) (before_last y t) (last_kind t) ts) e
    ∙ ap (λ (k : ℕ). t ∷ filled a k (before_last y t) (last_kind t) ts) none

-- a token in front of which a tag is put
under : (a n : ℕ) (x y : Kind) (t : Token) (ts : List Token) → lacks_tag x y (kind_at t) ≡ true
    → filled a n x y (t ∷ ts) ≡ tag_tokens (next_tag a n) ++ (t ∷ filled a (n + 1) (before_last y t) (last_kind t) ts)
under a n x y t ts e = ap (λ (v : Bool). labelled a n v t ++ filled a (n + cond v 1 0) (before_last y t) (last_kind t) ts) e

-- ---- expressions

abbrev is_inner : Token → Bool
is_inner (Word keyword.And) = true
is_inner (Word keyword.Or) = true
is_inner (Word keyword.Not) = true
is_inner (Word _) = false
is_inner (Mark sign.Colon) = false
is_inner (Mark sign.Semicolon) = false
is_inner _ = true

abbrev AllInner : List Token → Type 0
AllInner ts = list_all is_inner ts ≡ true

inner_append : (xs ys : List Token) → AllInner xs → AllInner ys → AllInner (xs ++ ys)
inner_append xs ys h k = list_all-append is_inner xs ys ∙ rw (h, k) refl

inner_joins : {r : Rule} {t : Token} {op : Binary} → Joins r t op → is_inner t ≡ true
inner_joins grammar.or = refl
inner_joins grammar.and = refl
inner_joins grammar.plus = refl
inner_joins grammar.minus = refl
inner_joins grammar.star = refl
inner_joins grammar.slash = refl
inner_joins grammar.percent = refl

inner_compares : {t : Token} {op : Binary} → Compares t op → is_inner t ≡ true
inner_compares grammar.equal = refl
inner_compares grammar.differ = refl
inner_compares grammar.less = refl
inner_compares grammar.less_equal = refl
inner_compares grammar.greater = refl
inner_compares grammar.greater_equal = refl

inner_prefixes : {t : Token} {op : Unary} → Prefixes t op → is_inner t ≡ true
inner_prefixes grammar.minus = refl
inner_prefixes grammar.not = refl

inner_between : (a b : List Token) (t : Token) → AllInner a → is_inner t ≡ true → AllInner b → AllInner (a ++ (t ∷ b))
inner_between a b t h i k = inner_append a (t ∷ b) h (rw (i, k) refl)

inner_term : {r : Rule} {d : ℕ} {ts : List Token} {e : Term} → SpellsTerm r d ts e → AllInner ts
inner_term (grammar.one on h) = inner_term h
inner_term (grammar.joined {a = a} {b = b} {t = t} on j h k) = inner_between a b t (inner_term h) (inner_joins j) (inner_term k)
inner_term (grammar.compared {a = a} {b = b} {t = t} c h k) = inner_between a b t (inner_term h) (inner_compares c) (inner_term k)
inner_term (grammar.signed {a = a} {t = t} p h) = rw (inner_prefixes p, inner_term h) refl
inner_term (grammar.literal h) = refl
inner_term grammar.name = refl
inner_term (grammar.bracket {ts = ts} h) = inner_append ts (Mark sign.Close ∷ []) (inner_term h) refl
inner_term (grammar.indexed {ts = ts} named h) = inner_append ts (Mark sign.CloseSquare ∷ []) (inner_term h) refl

-- behind these two kinds no part begins, nor behind the second and any kind
record Closed (x y : Kind) : Type 0 where
  now : may_begin x y ≡ false
  next : is_colon y ≡ false

closed_number : (y : Kind) (v : Bool) (n : ℕ) → is_colon y ≡ false → Closed y (cond v (kind.Number n) kind.Other)
closed_number y true n e = record { now = e; next = refl }
closed_number y false n e = record { now = refl; next = refl }

closed_next : (y : Kind) (t : Token) → is_inner t ≡ true → is_colon y ≡ false → Closed (before_last y t) (last_kind t)
closed_next y (Word keyword.And) i e = record { now = refl; next = refl }
closed_next y (Word keyword.Or) i e = record { now = refl; next = refl }
closed_next y (Word keyword.Not) i e = record { now = refl; next = refl }
closed_next y (Word _) i e = absurd cc
closed_next y (Name x) i e = record { now = refl; next = refl }
closed_next y (Number n) i e = closed_number y (ltb n TAG_NUMBERS) n e
closed_next y (Mark sign.Colon) i e = absurd cc
closed_next y (Mark sign.Semicolon) i e = absurd cc
closed_next y (Mark _) i e = record { now = refl; next = refl }

record Passes (a n : ℕ) (x y : Kind) (ts : List Token) : Type 0 where
  before : Kind
  last : Kind
  closed : Closed before last
  is : (more : List Token) → filled a n x y (ts ++ more) ≡ ts ++ filled a n before last more

-- nothing is put into an expression
passes : (a n : ℕ) (x y : Kind) (ts : List Token) → AllInner ts → Closed x y → Passes a n x y ts
passes a n x y [] h c = record { before = x; last = y; closed = c; is = λ more. refl }
passes a n x y (t ∷ ts) h c =
    let both = and_both (is_inner t) (list_all is_inner ts) h in
    let p = passes a n (before_last y t) (last_kind t) ts both.1 (closed_next y t both.0 c.next) in
    record {
      before = p.before;
      last = p.last;
      closed = p.closed;
      is = λ more. over a n x y t (ts ++ more) (no_gap x y (kind_at t) c.now) ∙ ap (λ (us : List Token). t ∷ us) (p.is more);
    }

-- ---- the front of a part

small_begins_none : (v : Bool) (n : ℕ) → begins_part (cond v (kind.Number n) kind.Other) ≡ false
small_begins_none true n = refl
small_begins_none false n = refl

number_over : (a n : ℕ) (x y : Kind) (k : ℕ) (ts : List Token)
    → filled a n x y (Number k ∷ ts) ≡ Number k ∷ filled a n y (last_kind (Number k)) ts
number_over a n x y k ts = over a n x y (Number k) ts (no_part x y (kind_at (Number k)) (small_begins_none (ltb k TAG_NUMBERS) k))

sign_over : (a n : ℕ) (x y : Kind) (t : Token) (ts : List Token) → begins_part (kind_at t) ≡ false
    → filled a n x y (t ∷ ts) ≡ t ∷ filled a n (before_last y t) (last_kind t) ts
sign_over a n x y t ts e = over a n x y t ts (no_part x y (kind_at t) e)

tag_over : (a n : ℕ) (x y : Kind) (t : Tag) (ts : List Token)
    → filled a n x y (tag_tokens t ++ ts) ≡ tag_tokens t ++ filled a n (last_kind (Number t.serial)) kind.Colon ts
tag_over a n x y t ts =
    let A = last_kind (Number t.author) in
    let S = last_kind (Number t.serial) in
    let first = Number t.author in
    number_over a n x y t.author (Mark sign.Dot ∷ Number t.serial ∷ Mark sign.Colon ∷ ts)
    ∙ ap (λ (us : List Token). first ∷ us) (sign_over a n y A (Mark sign.Dot) (Number t.serial ∷ Mark sign.Colon ∷ ts) refl)
    ∙ ap (λ (us : List Token). first ∷ Mark sign.Dot ∷ us) (number_over a n A kind.Dot t.serial (Mark sign.Colon ∷ ts))
    ∙ ap (λ (us : List Token). first ∷ Mark sign.Dot ∷ Number t.serial ∷ us) (sign_over a n kind.Dot S (Mark sign.Colon) ts refl)

-- what a part begins with behind its tag
record IsFirst (t : Token) : Type 0 where
  here : kind_at t ≡ kind.Begins
  before : (y : Kind) → before_last y t ≡ y
  last : last_kind t ≡ kind.Begins

record Begun (a n k : ℕ) (x y : Kind) (label : List Token) (t : Tag) (first : Token) : Type 0 where
  before : Kind
  labels : (j : ℕ) → Labels tagged j (tag_tokens t) t
  is : (more : List Token) → filled a n x y (label ++ (first ∷ more)) ≡ tag_tokens t ++ (first ∷ filled a k before kind.Begins more)

first_kind : (a n : ℕ) (y : Kind) (t : Token) (ts : List Token) → IsFirst t
    → filled a n (before_last y t) (last_kind t) ts ≡ filled a n y kind.Begins ts
first_kind a n y t ts f = rw (f.before y, f.last) refl

begins : {a n k : ℕ} {label : List Token} {t : Tag} → (x y : Kind) (first : Token) → may_begin x y ≡ true → IsFirst first
    → MayLabel a n k label t → Begun a n k x y label t first
begins {a = a} {n = n} x y first may f (stands {t = t} h) = record {
  before = kind.Colon;
  labels = λ j. grammar.tag h;
  is = λ more.
      tag_over a n x y t (first ∷ more)
      ∙ ap (λ (us : List Token). tag_tokens t ++ us) (over a n (last_kind (Number t.serial)) kind.Colon first more refl)
      ∙ ap (λ (us : List Token). tag_tokens t ++ (first ∷ us)) (first_kind a n kind.Colon first more f);
}
begins {a = a} {n = n} x y first may f (lacks h) = record {
  before = y;
  labels = λ j. grammar.tag h;
  is = λ more.
      under a n x y first more (gap_here x y (kind_at first) may (ap begins_part f.here))
      ∙ ap (λ (us : List Token). tag_tokens (next_tag a n) ++ (first ∷ us)) (first_kind a (n + 1) y first more f);
}

-- a part up to the sign or word behind its content
record Headed (a n k : ℕ) (x y : Kind) (label : List Token) (t : Tag) (content : List Token) (stop : Token) : Type 0 where
  before : Kind
  labels : (j : ℕ) → Labels tagged j (tag_tokens t) t
  is : (more : List Token) → filled a n x y (label ++ (content ++ (stop ∷ more)))
      ≡ tag_tokens t ++ (content ++ (stop ∷ filled a k before kind.Opens more))

record IsStop (t : Token) : Type 0 where
  here : kind_at t ≡ kind.Opens
  before : (y : Kind) → before_last y t ≡ y
  last : last_kind t ≡ kind.Opens

stop_over : (a n : ℕ) (x y : Kind) (t : Token) (ts : List Token) → IsStop t → filled a n x y (t ∷ ts) ≡ t ∷ filled a n y kind.Opens ts
stop_over a n x y t ts s =
    sign_over a n x y t ts (ap begins_part s.here) ∙ ap (λ (us : List Token). t ∷ us) (rw (s.before y, s.last) refl)

heads : (a n k : ℕ) (x y : Kind) (label : List Token) (t : Tag) (first : Token) (inside : List Token) (stop : Token)
    → may_begin x y ≡ true → IsFirst first → AllInner inside → IsStop stop → MayLabel a n k label t
    → Headed a n k x y label t (first ∷ inside) stop
heads a n k x y label t first inside stop may f inner s h =
    let b = begins x y first may f h in
    let p = passes a k b.before kind.Begins inside inner (record { now = refl; next = refl }) in
    record {
      before = p.last;
      labels = b.labels;
      is = λ more.
          b.is (inside ++ (stop ∷ more))
          ∙ ap (λ (us : List Token). tag_tokens t ++ (first ∷ us)) (p.is (stop ∷ more))
          ∙ ap (λ (us : List Token). tag_tokens t ++ (first ∷ (inside ++ us))) (stop_over a k p.before p.last stop more s);
    }

-- ---- actions

record Starts (content : List Token) : Type 0 where
  first : Token
  inside : List Token
  is : content ≡ first ∷ inside
  begins : IsFirst first
  inner : AllInner inside

action_starts : {content : List Token} {d : Action} → SpellsAction content d → Starts content
action_starts (assignment {x = x} {value = value} h) = record {
  first = Name x;
  inside = Mark sign.Becomes ∷ value;
  is = refl;
  begins = record { here = refl; before = λ y. refl; last = refl };
  inner = inner_term h.0;
}
action_starts (write {value = value} h) = record {
  first = Word keyword.Write;
  inside = value;
  is = refl;
  begins = record { here = refl; before = λ y. refl; last = refl };
  inner = inner_term h.0;
}
action_starts (store x {index = index} {value = value} named h) = record {
  first = Name x;
  inside = Mark sign.OpenSquare ∷ (index ++ (Mark sign.CloseSquare ∷ Mark sign.Becomes ∷ value));
  is = refl;
  begins = record { here = refl; before = λ y. refl; last = refl };
  inner = inner_append index (Mark sign.CloseSquare ∷ Mark sign.Becomes ∷ value) (inner_term h.0) (inner_term h.1);
}

action_heads : (a n k : ℕ) (x y : Kind) (label : List Token) (t : Tag) (content : List Token) → may_begin x y ≡ true → Starts content
    → MayLabel a n k label t → Headed a n k x y label t content (Mark sign.Semicolon)
action_heads a n k x y label t content may s h =
    subst (λ (c : List Token). Headed a n k x y label t c (Mark sign.Semicolon)) (sym s.is)
    (heads a n k x y label t s.first s.inside (Mark sign.Semicolon) may s.begins s.inner
    (record { here = refl; before = λ z. refl; last = refl }) h)

action_part : {l j k : ℕ} {label content more : List Token} {t : Tag} {d : Action} {rest : Body} → Labels tagged j label t
    → SpellsAction content d → SpellsParts tagged (suc l) (j + 1) k more rest
    → SpellsParts tagged (suc l) j k (label ++ (content ++ (Mark sign.Semicolon ∷ more))) (action t d rest)
action_part g (assignment h) m = grammar.assignment g h m
action_part g (write h) m = grammar.write g h m
action_part {l} {j} {k} {label} {content} {more} {t} {d} {rest} g (store x {index = index} {value = value} named h) m =
    let same = append_assoc index (Mark sign.CloseSquare ∷ Mark sign.Becomes ∷ value) (Mark sign.Semicolon ∷ more) in
    subst (λ (ts : List Token). SpellsParts tagged (suc l) j k (label ++ (Name x ∷ Mark sign.OpenSquare ∷ ts)) (action t d rest)) (sym same)
    (grammar.store x named g h m)

-- ---- parts

-- behind the front of a part
headed_more : (a n k : ℕ) (x y : Kind) (label content : List Token) (t : Tag) (stop : Token) (p : Headed a n k x y label t content stop)
    (ts us : List Token) (tail : List Token → List Token)
    → ((more : List Token) → filled a k p.before kind.Opens (ts ++ more) ≡ us ++ tail more) → (more : List Token)
    → filled a n x y ((label ++ (content ++ (stop ∷ ts))) ++ more) ≡ (tag_tokens t ++ (content ++ (stop ∷ us))) ++ tail more
headed_more a n k x y label content t stop p ts us tail h more =
    ap (filled a n x y) (append_assoc label (content ++ (stop ∷ ts)) more
    ∙ ap (λ (vs : List Token). label ++ vs) (append_assoc content (stop ∷ ts) more))
    ∙ p.is (ts ++ more)
    ∙ ap (λ (vs : List Token). tag_tokens t ++ (content ++ (stop ∷ vs))) (h more)
    ∙ ap (λ (vs : List Token). tag_tokens t ++ vs) (sym (append_assoc content (stop ∷ us) (tail more)))

-- behind a block and the word that ends it
block_more : (a l n m : ℕ) (x y : Kind) (first : List Token) (body : Body) (stop : Token) → IsStop stop → (q : IsFilled a l n m x y first body)
    → (ts us : List Token) (tail : List Token → List Token)
    → ((more : List Token) → filled a m q.last kind.Opens (ts ++ more) ≡ us ++ tail more) → (more : List Token)
    → filled a n x y ((first ++ (stop ∷ ts)) ++ more) ≡ (q.tokens ++ (stop ∷ us)) ++ tail more
block_more a l n m x y first body stop s q ts us tail h more =
    ap (filled a n x y) (append_assoc first (stop ∷ ts) more)
    ∙ q.is (stop ∷ (ts ++ more))
    ∙ ap (λ (vs : List Token). q.tokens ++ vs) (stop_over a m q.before q.last stop (ts ++ more) s)
    ∙ ap (λ (vs : List Token). q.tokens ++ (stop ∷ vs)) (h more)
    ∙ sym (append_assoc q.tokens (stop ∷ us) (tail more))

then_stops : IsStop (Word keyword.Then)
then_stops = record { here = refl; before = λ y. refl; last = refl }

else_stops : IsStop (Word keyword.Else)
else_stops = record { here = refl; before = λ y. refl; last = refl }

fi_stops : IsStop (Word keyword.Fi)
fi_stops = record { here = refl; before = λ y. refl; last = refl }

do_stops : IsStop (Word keyword.Do)
do_stops = record { here = refl; before = λ y. refl; last = refl }

od_stops : IsStop (Word keyword.Od)
od_stops = record { here = refl; before = λ y. refl; last = refl }

if_first : IsFirst (Word keyword.If)
if_first = record { here = refl; before = λ y. refl; last = refl }

while_first : IsFirst (Word keyword.While)
while_first = record { here = refl; before = λ y. refl; last = refl }

gaps_filled : {a l n m : ℕ} {ts : List Token} {body : Body} → (x y : Kind) → may_begin x y ≡ true → SpellsGapped a l n m ts body
    → IsFilled a l n m x y ts body
gaps_filled x y may nothing = record {
  tokens = [];
  before = x;
  last = y;
  spelled = λ j. (j, grammar.nothing);
  ends = may;
  is = λ more. refl;
}
gaps_filled {a = a} {n = n} {m = m} x y may (simple {l = l} {k = k} {t = t} {d = d} {label = label} {content = content} {more = ts} {rest = rest} g h more) =
    let p = action_heads a n k x y label t content may (action_starts h) g in
    let r = gaps_filled p.before kind.Opens refl more in
    record {
      tokens = tag_tokens t ++ (content ++ (Mark sign.Semicolon ∷ r.tokens));
      before = r.before;
      last = r.last;
      spelled = λ j. let s = r.spelled (j + 1) in (s.0, action_part (p.labels j) h s.1);
      ends = r.ends;
      is = headed_more a n k x y label content t (Mark sign.Semicolon) p ts r.tokens (filled a m r.before r.last) r.is;
    }
gaps_filled {a = a} {n = n} {m = m} x y may
    (conditional {l = l} {k = k} {j = j} {t = t} {e = e} {label = label} {test = test} {first = first} {more = ts} {yes = chosen} {rest = rest} g h b more) =
    let p = heads a n k x y label t (Word keyword.If) test (Word keyword.Then) may if_first (inner_term h.0) then_stops g in
    let q = gaps_filled p.before kind.Opens refl b in
    let r = gaps_filled q.last kind.Opens refl more in
    record {
      tokens = tag_tokens t ++ (Word keyword.If ∷ (test ++ (Word keyword.Then ∷ (q.tokens ++ (Word keyword.Fi ∷ r.tokens)))));
      before = r.before;
      last = r.last;
      spelled = λ i. let u = q.spelled (i + 1) in let v = r.spelled u.0 in (v.0, grammar.conditional (p.labels i) h u.1 v.1);
      ends = r.ends;
      is = headed_more a n k x y label (Word keyword.If ∷ test) t (Word keyword.Then) p (first ++ (Word keyword.Fi ∷ ts))
          (q.tokens ++ (Word keyword.Fi ∷ r.tokens)) (filled a m r.before r.last)
          (block_more a l k j p.before kind.Opens first chosen (Word keyword.Fi) fi_stops q ts r.tokens (filled a m r.before r.last) r.is);
    }
gaps_filled {a = a} {n = n} {m = m} x y may
    (conditional_else {l = l} {k = k} {j = j} {i = i} {t = t} {e = e} {label = label} {test = test} {first = first} {second = second} {more = ts} {yes = chosen}
    {no = other} {rest = rest} g h b c more) =
    let p = heads a n k x y label t (Word keyword.If) test (Word keyword.Then) may if_first (inner_term h.0) then_stops g in
    let q = gaps_filled p.before kind.Opens refl b in
    let w = gaps_filled q.last kind.Opens refl c in
    let r = gaps_filled w.last kind.Opens refl more in
    record {
      tokens = tag_tokens t ++ (Word keyword.If ∷ (test ++ (Word keyword.Then
          ∷ (q.tokens ++ (Word keyword.Else ∷ (w.tokens ++ (Word keyword.Fi ∷ r.tokens)))))));
      before = r.before;
      last = r.last;
      spelled = λ f. let u = q.spelled (f + 1) in let v = w.spelled u.0 in let z = r.spelled v.0 in
          (z.0, grammar.conditional_else (p.labels f) h u.1 v.1 z.1);
      ends = r.ends;
      is = headed_more a n k x y label (Word keyword.If ∷ test) t (Word keyword.Then) p
          (first ++ (Word keyword.Else ∷ (second ++ (Word keyword.Fi ∷ ts))))
          (q.tokens ++ (Word keyword.Else ∷ (w.tokens ++ (Word keyword.Fi ∷ r.tokens)))) (filled a m r.before r.last)
          (block_more a l k j p.before kind.Opens first chosen (Word keyword.Else) else_stops q (second ++ (Word keyword.Fi ∷ ts))
          (w.tokens ++ (Word keyword.Fi ∷ r.tokens)) (filled a m r.before r.last)
          (block_more a l j i q.last kind.Opens second other (Word keyword.Fi) fi_stops w ts r.tokens (filled a m r.before r.last) r.is));
    }
gaps_filled {a = a} {n = n} {m = m} x y may
    (while_loop {l = l} {k = k} {j = j} {t = t} {e = e} {label = label} {test = test} {inner = inner} {more = ts} {body = body} {rest = rest} g h b more) =
    let p = heads a n k x y label t (Word keyword.While) test (Word keyword.Do) may while_first (inner_term h.0) do_stops g in
    let q = gaps_filled p.before kind.Opens refl b in
    let r = gaps_filled q.last kind.Opens refl more in
    record {
      tokens = tag_tokens t ++ (Word keyword.While ∷ (test ++ (Word keyword.Do ∷ (q.tokens ++ (Word keyword.Od ∷ r.tokens)))));
      before = r.before;
      last = r.last;
      spelled = λ i. let u = q.spelled (i + 1) in let v = r.spelled u.0 in (v.0, grammar.while_loop (p.labels i) h u.1 v.1);
      ends = r.ends;
      is = headed_more a n k x y label (Word keyword.While ∷ test) t (Word keyword.Do) p (inner ++ (Word keyword.Od ∷ ts))
          (q.tokens ++ (Word keyword.Od ∷ r.tokens)) (filled a m r.before r.last)
          (block_more a l k j p.before kind.Opens inner body (Word keyword.Od) od_stops q ts r.tokens (filled a m r.before r.last) r.is);
    }

pub filled_gaps : (a l n m : ℕ) (x y : Kind) (ts : List Token) (body : Body) → may_begin x y ≡ true → SpellsGapped a l n m ts body
    → IsFilled a l n m x y ts body
filled_gaps a l n m x y ts body may h = gaps_filled x y may h
