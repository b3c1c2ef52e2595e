use mathlib.Core.Path.{refl, ap, ◌∙◌}
use mathlib.Core.List.{List, ◌++◌}
use Prim.Native.Nat.{ℕ}
use native.Mathlib.Omega.{arith}
use lib.ListN.{length}
use Rattle.laws.specs.Runs.{wrote-more, wrote_as}
use Rattle.paper.specs.declared.Control.{Control}
use Rattle.paper.specs.Dialogues.{Place, waiting_rejects}
use Rattle.paper.specs.Calls.{place_at}
use Rattle.paper.specs.Layout.{view}
use Rattle.call_send_parts.specs.Sent.{holds-fine, sent-all, sent-none, sent-least, sent-room}
use Rattle.call_send_parts.proofs.write_sent.Goals as goal

pub copy_at-e-requires : goal.copy_at-e-requires
copy_at-e-requires c =
    omega (arith, ap length c.waiting-w.ensures, sent-least (place_at (view c.args.t.now) c.args.p) c.args.fits)

pub write_rejects-requires : goal.write_rejects-requires
write_rejects-requires c =
    let x : Place = place_at (view c.args.t.now) c.args.p in (
      holds-fine c.requires.0,
      sent-room x c.args.fits c.args.c c.waiting-w.result.now c.args.at c.copy_at-e.result (length c.copy_at-e.new.out) c.if-fits.true c.requires.0.control
          c.waiting-w.ensures c.copy_at-e.ensures.past (omega (arith, c.copy_at-e.ensures.long)),
    )

pub returns-then-fits : goal.returns-then-fits
returns-then-fits c =
    let x : Place = place_at (view c.args.t.now) c.args.p in
    wrote_as (wrote-more c.copy_at-e.ensures refl c.write_rejects.ensures)
    (ap (λ (w : List ℕ). w ++ waiting_rejects c.args.c) c.waiting-w.ensures
    ∙ ap (λ (k : Control). x.waiting ++ waiting_rejects k) c.requires.0.control ∙ sent-all x c.args.fits c.if-fits.true)

pub returns-else-fits : goal.returns-else-fits
returns-else-fits c =
    let x : Place = place_at (view c.args.t.now) c.args.p in
    wrote_as c.copy_at-e.ensures
    (c.waiting-w.ensures ∙ sent-none x c.args.fits c.if-fits.false)
