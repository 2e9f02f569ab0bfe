-- The parts of a block are found where they stand.
use Rattle.std.proofs.Common.{◌≡◌, ℕ, ◌+◌, ◌≤◌, ◌<◌, ◌^◌, List, [], ◌∷◌, ◌++◌, length, drop, Bool, true, false, codes, refl, sym, ap, subst, ◌∙◌, append_assoc, arith}
use Rattle.std.specs.Str.{bytes_eq}
use Rattle.std.proofs.lemmas.List.{append-nil, map-append}
use Rattle.hpr_terms.specs.declared.limits.TheConstants.{TAG_NUMBERS}
use Rattle.hpr_terms.specs.declared.tag.Tag.{Tag}
use Rattle.hpr_terms.specs.declared.expr.Unary.{Unary}
use Rattle.hpr_terms.specs.declared.expr.Binary.{Binary}
use Rattle.hpr_terms.specs.declared.keyword.Keyword.TheVariants as keyword
use Rattle.hpr_terms.specs.declared.token.Sign.TheVariants as sign
use Rattle.hpr_terms.specs.declared.token.Token.{Token}
use Rattle.hpr_terms.specs.declared.token.Token.TheVariants.{Word, Number, Mark}
use Rattle.hpr_terms.specs.Term.{Term}
use Rattle.hpr_terms.specs.Tokens.{is_word, Text}
use Rattle.hpr_syntax.specs.Body.{Body}
use Rattle.hpr_syntax.specs.Grammar as grammar
use Rattle.hpr_syntax.specs.Grammar.{Form, tagged, Rule, expr, sum, prefixed, Joins, Compares, Prefixes, SpellsTerm, IsTag, Labels, SpellsParts}
use Rattle.hpr_places.specs.declared.place.Placed.{Placed}
use Rattle.hpr_places.specs.Places.{Located, TextAt, tokens_of, end_of, Part, Stands, EachStands}
use Rattle.hpr_places.specs.Private.Walk.{skip, opened, closed, next_is, Walked, stop, then_on, close, whole, if_else}
use Rattle.hpr_places.proofs.Cut.{Cut, end_last, cut_none, cut_then, cut_to, cut_one, Next, next_token, closed_is, word_is_next, Passes, AllPass, Said}

-- ---- parts that stand in some tokens stand in more

stands_right : (front ts : List Located) (p : Part) (q : Placed) → Stands ts p q → Stands (front ++ ts) p q
stands_right front ts p q h = record {
  front = front ++ h.front;
  inside = h.inside;
  back = h.back;
  level = h.level;
  before = h.before;
  after = h.after;
  tokens_are = ap (λ a. front ++ a) h.tokens_are ∙ sym (append_assoc front h.front (h.inside ++ h.back));
  spelled = h.spelled;
  tag_is = h.tag_is;
  first_is = h.first_is;
  end_is = h.end_is;
}

stands_left : (ts back : List Located) (p : Part) (q : Placed) → Stands ts p q → Stands (ts ++ back) p q
stands_left ts back p q h = record {
  front = h.front;
  inside = h.inside;
  back = h.back ++ back;
  level = h.level;
  before = h.before;
  after = h.after;
  tokens_are = ap (λ a. a ++ back) h.tokens_are ∙ append_assoc h.front (h.inside ++ h.back) back ∙ ap (λ a. h.front ++ a) (append_assoc h.inside h.back back);
  spelled = h.spelled;
  tag_is = h.tag_is;
  first_is = h.first_is;
  end_is = h.end_is;
}

pub each_right : (front ts : List Located) (ps : List Part) (qs : List Placed) → EachStands ts ps qs → EachStands (front ++ ts) ps qs
each_right front ts [] [] h = h
each_right front ts (p ∷ ps) (q ∷ qs) h = (stands_right front ts p q h.0, each_right front ts ps qs h.1)
each_right front ts [] (q ∷ qs) h = absurd h
each_right front ts (p ∷ ps) [] h = absurd h

pub each_left : (ts back : List Located) (ps : List Part) (qs : List Placed) → EachStands ts ps qs → EachStands (ts ++ back) ps qs
each_left ts back [] [] h = h
each_left ts back (p ∷ ps) (q ∷ qs) h = (stands_left ts back p q h.0, each_left ts back ps qs h.1)
each_left ts back [] (q ∷ qs) h = absurd h
each_left ts back (p ∷ ps) [] h = absurd h

each_append : (ts : List Located) (ps rs : List Part) (qs ss : List Placed) → EachStands ts ps qs → EachStands ts rs ss → EachStands ts (ps ++ rs) (qs ++ ss)
each_append ts [] rs [] ss h k = k
each_append ts (p ∷ ps) rs (q ∷ qs) ss h k = (h.0, each_append ts ps rs qs ss h.1 k)
each_append ts [] rs (q ∷ qs) ss h k = absurd h
each_append ts (p ∷ ps) rs [] ss h k = absurd h

-- ---- some parts, found from a byte on

pub record Found (bytes : List ℕ) (w : Bool) (n : ℕ) (ts : List Token) (parts : List Part) (a : Walked) (us : List Token) : Type 0 where
  pub cut : Cut bytes w n ts a.end us
  pub stand : EachStands cut.all parts a.places
  pub grows : n ≤ a.end

pub found_none : (bytes : List ℕ) (w : Bool) (n : ℕ) (us : List Token) → Text w (drop n bytes) us → Found bytes w n [] [] (stop n) us
unfolding cut_none
found_none bytes w n us x = record { cut = cut_none bytes w n us x; stand = tt; grows = omega arith }

pub found_as : (bytes : List ℕ) (w : Bool) (n : ℕ) (ts ss : List Token) (parts : List Part) (a b : Walked) (us : List Token) → Found bytes w n ts parts a us → ts ≡ ss → a ≡ b
    → Found bytes w n ss parts b us
unfolding cut_to
found_as bytes w n ts ss parts a b us x same e = record {
  cut = cut_to bytes w n a.end b.end ts ss us x.cut same (ap (λ (c : Walked). c.end) e);
  stand = subst (EachStands x.cut.all parts) (ap (λ (c : Walked). c.places) e) x.stand;
  grows = subst (λ (c : Walked). n ≤ c.end) e x.grows;
}

pub found_then : (bytes : List ℕ) (w : Bool) (n : ℕ) (ts ss us : List Token) (ps rs : List Part) (a : Walked) (f : ℕ → Walked) (x : Found bytes w n ts ps a (ss ++ us))
    → Found bytes x.cut.word a.end ss rs (f a.end) us → Found bytes w n (ts ++ ss) (ps ++ rs) (then_on a f) us
unfolding cut_then
found_then bytes w n ts ss us ps rs a f x y =
    let low = x.grows in
    let high = y.grows in
    record {
      cut = cut_then bytes w n a.end (f a.end).end ts ss us x.cut y.cut;
      stand = each_append (x.cut.all ++ y.cut.all) ps rs a.places (f a.end).places (each_left x.cut.all y.cut.all ps a.places x.stand)
          (each_right x.cut.all y.cut.all rs (f a.end).places y.stand);
      grows = omega arith;
    }

pub found_close : (bytes : List ℕ) (w : Bool) (n : ℕ) (ts us : List Token) (k : Token) (ps : List Part) (a : Walked) → is_word k ≡ true → Passes k
    → Found bytes w n ts ps a (k ∷ us) → Found bytes w n (ts ++ (k ∷ [])) ps (close bytes a) us
unfolding cut_then cut_to cut_one
found_close bytes w n ts us k ps a one small x =
    let y = next_token bytes x.cut.word a.end k us small.0 x.cut.more in
    let e = closed_is bytes x.cut.word a.end k us y one small.0 in
    let c = cut_to bytes x.cut.word a.end (y.first + length y.text) (closed bytes a.end) (k ∷ []) (k ∷ []) us (cut_one bytes x.cut.word a.end k us y) refl (sym e) in
    let low = x.grows in
    let high = y.grows in
    record {
      cut = cut_then bytes w n a.end (closed bytes a.end) ts (k ∷ []) us x.cut c;
      stand = each_left x.cut.all c.all ps a.places x.stand;
      grows = omega (arith, e);
    }

pub found_whole : (bytes : List ℕ) (w : Bool) (n : ℕ) (c : List Token) (z : Token) (ins us vs : List Token) (t : Tag) (alone : Body) (ps : List Part) (a : Walked) (l b k : ℕ)
    → Said bytes w n c z (opened bytes n) vs → Found bytes (is_word z) (opened bytes n) ins ps a us → SpellsParts tagged l b k (c ++ (z ∷ ins)) alone
    → Found bytes w n (c ++ (z ∷ ins)) (record { tag = t; alone = alone } ∷ ps) (whole t (skip bytes n) a) us
found_whole bytes w n c z ins us vs t alone ps a l b k s x spelled =
    let said_all = s.head ∷ s.tail in
    let all = said_all ++ x.cut.all in
    let are : tokens_of all ≡ c ++ (z ∷ ins) =
    map-append (λ (t : Located). t.token) said_all x.cut.all ∙ ap (λ ts. ts ++ tokens_of x.cut.all) s.are ∙ ap (λ ts. (c ++ (z ∷ [])) ++ ts) x.cut.are ∙ append_assoc c (z ∷ []) ins in
    let low = s.grows in
    let start = s.starts in
    let high = x.grows in
    let ending : end_of all ≡ a.end = x.cut.ends s.head s.tail s.ends in
    record {
      cut = record {
        all = all;
        are = are;
        word = x.cut.word;
        more = x.cut.more;
        joins = λ vs y. subst (TextAt w n (drop n bytes)) (sym (append_assoc said_all x.cut.all vs)) (s.joins (x.cut.all ++ vs) (x.cut.joins vs y));
        ends = λ y ys h. end_last y ys s.head (s.tail ++ x.cut.all) ∙ ending;
      };
      stand = (
        record {
          front = [];
          inside = all;
          back = [];
          level = l;
          before = b;
          after = k;
          tokens_are = sym (append-nil all);
          spelled = subst (λ ts. SpellsParts tagged l b k ts alone) (sym are) spelled;
          tag_is = refl;
          first_is = sym s.begins;
          end_is = omega (arith, ending);
        },
        each_right said_all x.cut.all ps a.places x.stand,
      );
      grows = omega arith;
    }

-- ---- the second block of a conditional

pub no_else : (bytes : List ℕ) (w : Bool) (n : ℕ) (us : List Token) (f : ℕ → Walked) → Next bytes w n (Word keyword.Fi) us → stop n ≡ if_else bytes f n
no_else bytes w n us f x =
    let never : next_is bytes n (codes "else") ≡ false = word_is_next bytes w n (Word keyword.Fi) us x refl tt (codes "else") ∙ ap (λ v. bytes_eq v (codes "else")) x.is in
    rw never refl

pub found_else : (bytes : List ℕ) (w : Bool) (n : ℕ) (ss us : List Token) (ps : List Part) (f : ℕ → Walked) → Next bytes w n (Word keyword.Else) (ss ++ us)
    → Found bytes true (closed bytes n) ss ps (f (closed bytes n)) us → Found bytes w n (Word keyword.Else ∷ ss) ps (if_else bytes f n) us
unfolding cut_then cut_to cut_one
found_else bytes w n ss us ps f x y =
    let t = Word keyword.Else in
    let sure : next_is bytes n (codes "else") ≡ true = word_is_next bytes w n t (ss ++ us) x refl tt (codes "else") ∙ ap (λ v. bytes_eq v (codes "else")) x.is in
    let e = closed_is bytes w n t (ss ++ us) x refl tt in
    let c = cut_to bytes w n (x.first + length x.text) (closed bytes n) (t ∷ []) (t ∷ []) (ss ++ us) (cut_one bytes w n t (ss ++ us) x) refl (sym e) in
    let low = x.grows in
    let high = y.grows in
    let whole_cut : Found bytes w n (t ∷ ss) ps (f (closed bytes n)) us = record {
      cut = cut_then bytes w n (closed bytes n) (f (closed bytes n)).end (t ∷ []) ss us c y.cut;
      stand = each_right c.all y.cut.all ps (f (closed bytes n)).places y.stand;
      grows = omega (arith, e);
    } in
    found_as bytes w n (t ∷ ss) (t ∷ ss) ps (f (closed bytes n)) (if_else bytes f n) us whole_cut refl (rw sure refl)

-- ---- what a part says has no token that ends it

pub all_append : (a b : List Token) → AllPass a → AllPass b → AllPass (a ++ b)
all_append [] b h k = k
all_append (t ∷ a) b h k = (h.0, all_append a b h.1 k)

joins_pass : (r : Rule) (t : Token) (op : Binary) → Joins r t op → Passes t
joins_pass _ _ _ grammar.or = (tt, refl)
joins_pass _ _ _ grammar.and = (tt, refl)
joins_pass _ _ _ grammar.plus = (tt, refl)
joins_pass _ _ _ grammar.minus = (tt, refl)
joins_pass _ _ _ grammar.star = (tt, refl)
joins_pass _ _ _ grammar.slash = (tt, refl)
joins_pass _ _ _ grammar.percent = (tt, refl)

compares_pass : (t : Token) (op : Binary) → Compares t op → Passes t
compares_pass _ _ grammar.equal = (tt, refl)
compares_pass _ _ grammar.differ = (tt, refl)
compares_pass _ _ grammar.less = (tt, refl)
compares_pass _ _ grammar.less_equal = (tt, refl)
compares_pass _ _ grammar.greater = (tt, refl)
compares_pass _ _ grammar.greater_equal = (tt, refl)

prefixes_pass : (t : Token) (op : Unary) → Prefixes t op → Passes t
prefixes_pass _ _ grammar.minus = (tt, refl)
prefixes_pass _ _ grammar.not = (tt, refl)

wide : (n k : ℕ) → n < k → k ≤ 2 ^ 64 → n < 2 ^ 64
wide n k a b = omega arith

pub term_pass : (r : Rule) (d : ℕ) (ts : List Token) (x : Term) → SpellsTerm r d ts x → AllPass ts
term_pass r d ts x (grammar.one {s = s} on h) = term_pass s d ts x h
term_pass r d _ _ (grammar.joined {s = s} {a = a} {b = b} {t = t} {op = op} {x = x} {y = y} on j h k) =
    all_append a (t ∷ b) (term_pass r d a x h) (joins_pass r t op j, term_pass s d b y k)
term_pass _ d _ _ (grammar.compared {a = a} {b = b} {t = t} {op = op} {x = x} {y = y} j h k) =
    all_append a (t ∷ b) (term_pass sum d a x h) (compares_pass t op j, term_pass sum d b y k)
term_pass _ d _ _ (grammar.signed {a = a} {t = t} {op = op} {x = x} j h) = (prefixes_pass t op j, term_pass prefixed d a x h)
term_pass _ d _ _ (grammar.literal {n = n} h) = ((wide n (2 ^ 63) h (omega arith), refl), tt)
term_pass _ d _ _ grammar.name = ((tt, refl), tt)
term_pass _ _ _ x (grammar.bracket {d = d} {ts = ts} h) = ((tt, refl), all_append ts (Mark sign.Close ∷ []) (term_pass expr d ts x h) ((tt, refl), tt))
term_pass _ _ _ _ (grammar.indexed {d = d} {ts = ts} {i = i} n h) =
    ((tt, refl), ((tt, refl), all_append ts (Mark sign.CloseSquare ∷ []) (term_pass expr d ts i h) ((tt, refl), tt)))

pub label_pass : (t : Tag) (c : List Token) → IsTag t → AllPass c → AllPass (Number t.author ∷ Mark sign.Dot ∷ Number t.serial ∷ Mark sign.Colon ∷ c)
label_pass t c h p =
    let author = wide t.author TAG_NUMBERS h.0 (omega arith) in
    let serial = wide t.serial TAG_NUMBERS h.1.1 (omega arith) in
    ((author, refl), ((tt, refl), ((serial, refl), ((tt, refl), p))))
