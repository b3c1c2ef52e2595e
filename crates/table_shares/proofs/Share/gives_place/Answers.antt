use Rattle.std.proofs.Common.{◌≡◌, refl, ap, ◌∙◌, Bool, true, false, not, eqb, eqb-true, eq-eqb, lt-ltb}
use Rattle.std.proofs.lemmas.Bool.{eqb-false}
use Rattle.paper.specs.Shares.{gives}
use Rattle.table_shares.specs.Telling.{told_below, told-limit, told-full, told-room}
use Rattle.table_shares.proofs.Share.gives_place.Goals as goal

pub returns-then-count-self : goal.returns-then-count-self
returns-then-count-self c R s t = lt-ltb _ _ c.if-count-self.true ∙ told_below R s _ _ _ _ _ t c.if-count-self.true

pub returns-then-count-self-2 : goal.returns-then-count-self-2
returns-then-count-self-2 c R s t = go (eqb c.args.free c.args.unused) refl
  where
    go : (b : Bool) → eqb c.args.free c.args.unused ≡ b → not b ≡ gives R s
    go true e = told-full R s _ _ _ _ _ t c.if-count-self.false (eqb-true _ _ e)
    go false e = told-room R s _ _ _ _ _ t c.if-count-self.false c.if-count-self-2.true (eqb-false _ _ e)

pub returns-else-count-self-2 : goal.returns-else-count-self-2
returns-else-count-self-2 c R s t = ap not (eq-eqb _ _ c.if-count-self-2.false) ∙ told-limit R s _ _ _ _ _ t c.if-count-self.false c.if-count-self-2.false
