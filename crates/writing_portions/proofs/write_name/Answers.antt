use mathlib.Core.Path.{◌≡◌, refl, sym, ◌∙◌}
use mathlib.Core.Bool.{false}
use native.Mathlib.Omega.{arith}
use borrow.Author.Tests.{eqb-false}
use denote.Enum.Bare.{sameb}
use lib.ListN.{length}
use Rattle.laws.specs.If.{true-false}
use Rattle.laws.specs.Runs.{wrote_as, wrote-more}
use Rattle.paper.specs.contracts.PduKind.{the_type}
use Rattle.paper.specs.declared.PduKind.{PduKind}
use Rattle.paper.specs.Refusals.{pdu_number}
use Rattle.writing_octets.specs.Lengths.{element-of, element-small}
use Rattle.writing_portions.specs.Forms.{some-named}
use Rattle.writing_portions.specs.Spans.{some_size}
use Rattle.writing_portions.proofs.write_name.Goals as goal

not-same : (kind : PduKind) → false ≡ sameb the_type kind PduKind.Abort → pdu_number kind ≡ 4 → ⊥
not-same PduKind.Request e z = omega arith
not-same PduKind.Response e z = omega arith
not-same PduKind.Abort e z = true-false (sym e)
not-same PduKind.Unidirectional e z = omega arith

pub write_head-a-requires : goal.write_head-a-requires
write_head-a-requires c =
    let n = length c.args.name.now in
    omega (arith, some_size (pdu_number c.args.kind) n (not-same c.args.kind c.if-eq.ensures) (eqb-false n 0 (sym c.if-is_empty.ensures)), element-small n)

pub returns : goal.returns
returns c =
    let n = some-named (pdu_number c.args.kind) c.args.name.now (not-same c.args.kind c.if-eq.ensures) (eqb-false (length c.args.name.now) 0 (sym c.if-is_empty.ensures)) in
    wrote_as (wrote-more c.write_head-a.ensures refl c.copy_at.ensures) (element-of _ _ _ refl ∙ n)
