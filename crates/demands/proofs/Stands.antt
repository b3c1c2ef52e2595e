-- WHAT WAS LENT STANDS where it is refused neither by 1 nor by 2. Assumes nothing.
use Rattle.std.specs.Prelude.{◌≡◌, refl}
use Rattle.std.proofs.Common.{sym, arith}
use Rattle.laws.specs.If.{eq, ge, yes, was-eq, was-ge, was-yes}
use Rattle.paper.specs.Outcome.{Lent, Spaces, standing}
use Rattle.table_laws.specs.Fine.{Octets}
use Rattle.table_laws.specs.Ready.{Ready}
use Rattle.table_laws.proofs.Ready.{ready}
use Rattle.demands.specs.Stands.{Stands}

pub stands : (l : Lent) (n : Spaces) → standing l n ≡ 0 → Stands l n
unfolding standing
stands l n e =
    let a = was-eq _ _ _ _ (sym e) (λ h. omega arith) in
    let b = was-ge _ _ _ _ a.1 (λ h. omega arith) in
    let c = was-ge _ _ _ _ b.1 (λ h. omega arith) in
    let d = was-yes _ _ _ c.1 (λ h. omega arith) in
    record { long = a.0; rows = b.0; space = c.0; kept = d.0 }

pub not-refused : (l : Lent) (n : Spaces) → Stands l n → standing l n ≡ 0
unfolding standing
not-refused l n w = sym (eq _ _ _ _ w.long (ge _ _ _ _ w.rows (ge _ _ _ _ w.space (yes _ _ _ w.kept refl))))

-- a table of octets that stands keeps the rules, and is all that a call asks of it
pub stands-ready : (l : Lent) (n : Spaces) → Octets l.table → standing l n ≡ 0 → Ready l.table
stands-ready l n octets e = let w = stands l n e in ready l.table octets w.long w.kept
