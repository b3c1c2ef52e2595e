use Rattle.std.proofs.Common.{◌≡◌, ap, ◌∙◌, arith, ℕ, ◌/◌, ◌%◌, eqb, ne_eqb, lt-ltb, Some}
use Rattle.paper.specs.Problems.{sender_of, by_layer}
use Rattle.reading_problems.specs.Parties.{party_number}
use Rattle.table_rules.proofs.Laws.{reject-not, reject-named, reject-odd, reject-nameless}
use Rattle.table_rules.proofs.reject_kept.Goals as goal

pub returns-then-o-lt128 : goal.returns-then-o-lt128
returns-then-o-lt128 c =
    let o : ℕ = c.args.o in
    let p : party_number c.sender.result ≡ by_layer = ap party_number (c.in-Some-SubLayer.is ∙ ap Some c.in-Some-SubLayer.field-0-is) in
    let w : sender_of (o / 8 % 16) (o % 8) ≡ by_layer = cc (p, c.sender.ensures, c.from-code.ensures, c.from-kind.ensures) in
    lt-ltb o 128 c.if-o-lt128.true ∙ reject-named c.args.id o (omega arith) w (omega arith) c.if-o-lt128.true

pub returns-then-id-eq0 : goal.returns-then-id-eq0
returns-then-id-eq0 c =
    let o : ℕ = c.args.o in
    let p : party_number c.sender.result ≡ by_layer = ap party_number (c.in-Some-SubLayer.is ∙ ap Some c.in-Some-SubLayer.field-0-is) in
    let w : sender_of (o / 8 % 16) (o % 8) ≡ by_layer = cc (p, c.sender.ensures, c.from-code.ensures, c.from-kind.ensures) in
    ap (λ (k : ℕ). eqb k 0) c.from-kind.ensures ∙ reject-nameless c.args.id o (omega arith) w (omega arith) c.if-o-lt128.false c.if-id-eq0.true

pub returns-else-id-eq0 : goal.returns-else-id-eq0
returns-else-id-eq0 c =
    let o : ℕ = c.args.o in
    let p : party_number c.sender.result ≡ by_layer = ap party_number (c.in-Some-SubLayer.is ∙ ap Some c.in-Some-SubLayer.field-0-is) in
    let w : sender_of (o / 8 % 16) (o % 8) ≡ by_layer = cc (p, c.sender.ensures, c.from-code.ensures, c.from-kind.ensures) in
    ne_eqb _ _ c.if-id-eq0.false ∙ reject-odd c.args.id o (omega arith) w (omega arith) c.if-o-lt128.false c.if-id-eq0.false

pub returns-in-Some-User : goal.returns-in-Some-User
returns-in-Some-User c =
    let o : ℕ = c.args.o in
    let p : party_number c.sender.result ≡ 1 = ap party_number (c.in-Some-User.is ∙ ap Some c.in-Some-User.field-0-is) in
    let w : sender_of (o / 8 % 16) (o % 8) ≡ 1 = cc (p, c.sender.ensures, c.from-code.ensures, c.from-kind.ensures) in
    reject-not c.args.id o (omega arith) (λ q. omega arith)

pub returns-in-None : goal.returns-in-None
returns-in-None c =
    let o : ℕ = c.args.o in
    let p : party_number c.sender.result ≡ 2 = ap party_number c.in-None.is in
    let w : sender_of (o / 8 % 16) (o % 8) ≡ 2 = cc (p, c.sender.ensures, c.from-code.ensures, c.from-kind.ensures) in
    reject-not c.args.id o (omega arith) (λ q. omega arith)
