use Rattle.std.proofs.Common.{◌≡◌, ◌≤◌, ◌<◌, ◌^◌, length, Some, sym, subst, ◌∙◌, arith}
use Rattle.hpr_terms.specs.declared.limits.TheConstants.{MAX_PARTS}
use Rattle.hpr_syntax.specs.declared.shape.ShapeError.{ShapeError}
use Rattle.hpr_syntax.specs.Spelling.{Spells}
use Rattle.hpr_syntax.specs.Tree.{Tree}
use Rattle.hpr_scan.specs.Place.{IsPlace, Accepts}
use Rattle.hpr_scan.specs.Steps.{IsReading}
use Rattle.hpr_text.specs.declared.state.State.{State}
use Rattle.hpr_text.specs.Answers.{IsText, IsMisshapen, ComesFromText}
use Rattle.hpr_text.specs.Forms.{form_of}
use Rattle.hpr_text.specs.Machine.{limit, next, may_end, tree_of, shape_of}
use Rattle.hpr_text.proofs.Shapes.{comes_from_text}
use Rattle.hpr_text.proofs.Answers.{ok_both, shape_so}
use Rattle.hpr_text.proofs.Texts.{TreeIs, reading_is, shape_is, place_of_text}
use Rattle.hpr_text.proofs.reader.parse.Goals as goal

pub returns-in-Ok-clause-spelled : goal.returns-in-Ok-clause-spelled
returns-in-Ok-clause-spelled c =
    let r = subst (λ (s : State). IsReading (next limit) s c.args.bytes.now c.in-Ok.state) c.new.ensures c.in-Ok.ensures.reads in
    let short : length c.args.bytes.now < 2 ^ 63 = omega arith in
    let h : TreeIs c.args.mode c.args.bytes.now c.in-Ok.state = reading_is c.args.mode c.args.bytes.now c.in-Ok.state short r c.in-Ok.ensures.ends in
    ok_both (λ (p : Tree). p ≡ tree_of c.in-Ok.state.found) (λ (p : Tree). c.in-Ok.state.found.count ≤ MAX_PARTS) (λ (p : Tree). Spells (form_of c.args.mode) c.args.bytes.now p) c.built.result
    (λ p e le. subst (λ (t : Tree). Spells (form_of c.args.mode) c.args.bytes.now t) (h.few le ∙ sym e) h.spelled) c.built.ensures.tree c.built.ensures.few

pub returns-in-Ok-clause-shape : goal.returns-in-Ok-clause-shape
returns-in-Ok-clause-shape c =
    let r = subst (λ (s : State). IsReading (next limit) s c.args.bytes.now c.in-Ok.state) c.new.ensures c.in-Ok.ensures.reads in
    let short : length c.args.bytes.now < 2 ^ 63 = omega arith in
    let h : TreeIs c.args.mode c.args.bytes.now c.in-Ok.state = reading_is c.args.mode c.args.bytes.now c.in-Ok.state short r c.in-Ok.ensures.ends in
    shape_so (λ (e : ShapeError). shape_of c.in-Ok.state.found ≡ Some e) (IsMisshapen (form_of c.args.mode) c.args.bytes.now) c.built.result
    (λ e q. (h.tree, h.spelled, shape_is c.args.mode c.args.bytes.now c.in-Ok.state e h q)) c.built.ensures.shape

pub returns-in-Ok-clause-never : goal.returns-in-Ok-clause-never
returns-in-Ok-clause-never c =
    let r = subst (λ (s : State). IsReading (next limit) s c.args.bytes.now c.in-Ok.state) c.new.ensures c.in-Ok.ensures.reads in
    let short : length c.args.bytes.now < 2 ^ 63 = omega arith in
    let h : TreeIs c.args.mode c.args.bytes.now c.in-Ok.state = reading_is c.args.mode c.args.bytes.now c.in-Ok.state short r c.in-Ok.ensures.ends in
    shape_so (λ (e : ShapeError). shape_of c.in-Ok.state.found ≡ Some e) ComesFromText c.built.result
    (λ e q. comes_from_text (form_of c.args.mode) c.args.bytes.now h.tree e h.spelled (shape_is c.args.mode c.args.bytes.now c.in-Ok.state e h q)) c.built.ensures.shape

pub returns-in-Err-Stuck-clause-syntax : goal.returns-in-Err-Stuck-clause-syntax
returns-in-Err-Stuck-clause-syntax c =
    let stuck = rw c.in-Err-Stuck.field-0-is at c.in-Err-Stuck.ensures.place in
    let h = subst (λ (s : State). IsPlace (Accepts (next limit) may_end s) c.args.bytes.now c.in-Err-Stuck.place) c.new.ensures stuck in
    subst (IsPlace (IsText (form_of c.args.mode)) c.args.bytes.now) (sym c.in-Err-Stuck.place-is) (place_of_text c.args.mode c.args.bytes.now c.in-Err-Stuck.place h)
