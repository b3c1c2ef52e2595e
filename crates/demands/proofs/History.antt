-- HISTORIES OF CALLS, at octets: what a host that hands the table on unaltered sees. Assumes nothing.
use Rattle.std.specs.Prelude.{◌≡◌, refl, List, [], ℕ, zero, suc, ◌*◌, ◌≤◌, length, Bool, true, false, cond}
use Rattle.std.proofs.Common.{sym, ap, subst, ◌∙◌, arith}
use Rattle.laws.specs.If.{eq, ne, true-false}
use Rattle.paper.specs.declared.Row.{Row}
use Rattle.paper.specs.Sizes.{services, least_rows, place_of}
use Rattle.paper.specs.Rows.{rows_at}
use Rattle.paper.specs.Dialogues.{Place, Request, refusal, does, request, unless_refused, shape_of}
use Rattle.paper.specs.Calls.{Table, Call, Out, place_at, dialogues, stored, requested, opened, step}
use Rattle.paper.specs.Calls.Call.{Open, OnDialogue, Receive}
use Rattle.paper.specs.Layout.{encode, view}
use Rattle.paper.specs.Outcome.{Lent, Outcome, spaces_of, spaces_for, standing, given, shown, refused_by, outcome}
use Rattle.table_laws.specs.Fine.{Fine}
use Rattle.table_laws.proofs.Whole.{view-encode}
use Rattle.table_laws.specs.Ready.{Ready}
use Rattle.table_laws.proofs.Ready.{encode-ready}
use Rattle.table_shares.specs.Counting.{only, Moves, moves_not, over-moves}
use Rattle.demand_kept.proofs.Leaves.{whether-lt, whether-b}
use Rattle.paper.specs.Counting.{Notice, told_by, service_of, begun_by, ended_by}
use Rattle.demand_kept.proofs.Shapes.{by_shape}
use Rattle.demand_kept.specs.StepKept.{WellFormed, Left}
use Rattle.demand_kept.proofs.StepKept.{step_left}
use Rattle.demands.proofs.Rows.{rows_back}
use Rattle.demands.specs.Fits.{Fit}
use Rattle.demands.proofs.Fits.{step-fit}
use Rattle.demands.proofs.Stands.{stands}
use Rattle.demands.specs.History.{Made, gave, handed, after, told, begins, ends, begun_of, ended_of, Next, AllFormed, Reached}

-- a refusal begins and ends nothing
refused_none : (c : Call) (n : ℕ) (l : Lent) → begun_by c (told (refused_by (suc n) l)) ≡ ended_by c (told (refused_by (suc n) l))
unfolding rows_at
refused_none (Open service) n l = refl
refused_none (OnDialogue service dialogue r) n l = refl
refused_none (Receive service s) n l = refl

-- a call that is done tells its rows, where they fit
told-given : (l : Lent) (o : Out) → o.answer ≡ 0 → Fit o.rows → 32 * length o.rows ≤ length l.rows → told (given l o) ≡ told_by o
told-given l o done fit room =
    ap (λ (rs : List Row). record { answer = 0; dialogue = o.dialogue; rows = rs }) (rows_back o.rows 0 l.rows fit.small (omega (arith, room)))
    ∙ ap (λ (n : ℕ). record { answer = n; dialogue = o.dialogue; rows = o.rows }) (sym done)

-- A CALL WITHOUT A ROW SPACE has no rows
quiet-request : (me : ℕ) (x : Place) (r : Request) → (shape_of r).rows ≡ false → (request me x r).rows ≡ []
unfolding request
quiet-request me x r e = go (refusal x r)
  where
    go : (n : ℕ) → (unless_refused n x (does me x r)).rows ≡ []
    go zero =
        by_shape me x (λ r o. (shape_of r).rows ≡ false → o.rows ≡ []) (λ r y m e z. refl) (λ id y z. absurd (true-false z)) (λ y z. absurd (true-false z)) r e
    go (suc n) = refl

abbrev Quiet : Out → Type 0
Quiet o = o.rows ≡ []

quiet_step : (T : Table) (service dialogue : ℕ) (r : Request) → (shape_of r).rows ≡ false → Quiet (step T (OnDialogue service dialogue r))
unfolding step requested stored
quiet_step T service dialogue r e =
    whether-lt Quiet service services _ _ (whether-b Quiet _ _ _ (quiet-request dialogue (place_at T (place_of dialogue)) r e) refl) refl

quiet-open : (T : Table) (service : ℕ) → Quiet (step T (Open service))
unfolding step opened
quiet-open T service = whether-lt Quiet service services _ _ (whether-b Quiet _ _ _ refl refl) refl

-- the rows of a call that isn't refused for a size fit into the row space
few-rows : (rs : List Row) (l : Lent) → rs ≡ [] → 32 * length rs ≤ length l.rows
few-rows rs l e = omega (arith, ap (λ (x : List Row). length x) e)

rows_fit : (T : Table) → Fine T → (l : Lent) (c : Call) → WellFormed c → standing l (spaces_for c) ≡ 0 → 32 * length (step T c).rows ≤ length l.rows
rows_fit T f l (Open service) o e = few-rows _ l (quiet-open T service)
rows_fit T f l (Receive service s) o e = omega (arith, (step-fit T f (Receive service s) o).few, (stands l (spaces_for (Receive service s)) e).rows)
rows_fit T f l (OnDialogue service dialogue r) o e = by (shape_of r).rows refl (stands l (spaces_of r) e).rows
  where
    by : (b : Bool) → (shape_of r).rows ≡ b → cond b least_rows 0 ≤ length l.rows → 32 * length (step T (OnDialogue service dialogue r)).rows ≤ length l.rows
    by true q h = omega (arith, (step-fit T f (OnDialogue service dialogue r) o).few)
    by false q h = few-rows _ l (quiet_step T service dialogue r q)

pub next : (T : Table) → Fine T → (m : Made) → WellFormed m.call → Next T m
unfolding outcome
next T f m o = stand (standing l (spaces_for m.call)) refl
  where
    l : Lent
    l = record { table = encode T; rows = m.rows; space = m.space }

    same : step (view (encode T)) m.call ≡ step T m.call
    same = ap (λ (U : Table). step U m.call) (view-encode T f)

    -- what was told, and the table afterwards
    MovesBy : Notice → Table → Type 0
    MovesBy x U = Moves (dialogues T) (only (service_of m.call) (begun_by m.call x)) (only (service_of m.call) (ended_by m.call x)) (dialogues U)

    by : (g : Outcome) → gave (encode T) m ≡ g → (U : Table) → Fine U → g.lent.table ≡ encode U → MovesBy (told g) U → Next T m
    by g e U u q w = record {
      to = U;
      fine = u;
      table = ap (λ (x : Outcome). x.lent.table) e ∙ q;
      moves = subst (λ (x : Outcome). MovesBy (told x) U) (sym e) w;
    }

    nothing : (n : ℕ) → MovesBy (told (refused_by (suc n) l)) T
    nothing n =
        subst (λ (k : ℕ). Moves (dialogues T) (only (service_of m.call) k) (only (service_of m.call) (ended_by m.call (told (refused_by (suc n) l)))) (dialogues T))
        (sym (refused_none m.call n l)) (moves_not (dialogues T) _)

    left : Left T m.call (step T m.call)
    left = step_left T f m.call o

    answered : (n : ℕ) → (step T m.call).answer ≡ n → standing l (spaces_for m.call) ≡ 0 → gave (encode T) m ≡ shown 0 l (step T m.call) → Next T m
    answered zero z st w =
        by (given l (step T m.call)) (w ∙ sym (eq _ _ _ _ z refl)) (step T m.call).table left.fine refl
        (subst (λ (x : Notice). MovesBy x (step T m.call).table) (sym (told-given l (step T m.call) z (step-fit T f m.call o) (rows_fit T f l m.call o st))) left.moves)
    answered (suc n) z st w =
        by (refused_by (suc n) l) (w ∙ sym (ne _ _ _ _ (λ h. omega (arith, z, h)) (ap (λ (k : ℕ). refused_by k l) (sym z)))) T f refl (nothing n)

    stand : (n : ℕ) → standing l (spaces_for m.call) ≡ n → Next T m
    stand zero e = answered (step T m.call).answer refl e (ap (λ (k : ℕ). shown k l (step (view (encode T)) m.call)) e ∙ ap (shown 0 l) same)
    stand (suc n) e = by (refused_by (suc n) l) (ap (λ (k : ℕ). shown k l (step (view (encode T)) m.call)) e) T f refl (nothing n)

-- on the octets of any table that keeps the rules
next-octets : (t : List ℕ) → Ready t → (m : Made) → WellFormed m.call
    → Ready (handed t m) × Moves (dialogues (view t)) (begins t m) (ends t m) (dialogues (view (handed t m)))
next-octets t r m o = on (next (view t) r.fine m o)
  where
    on : Next (view t) m → Ready (handed t m) × Moves (dialogues (view t)) (begins t m) (ends t m) (dialogues (view (handed t m)))
    on n =
        let e : handed t m ≡ encode n.to = ap (λ (x : List ℕ). handed x m) (sym r.same) ∙ n.table in
        let v : view (handed t m) ≡ n.to = ap view e ∙ view-encode n.to n.fine in (
          subst Ready (sym e) (encode-ready n.to n.fine),
          subst (λ (x : List ℕ). Moves (dialogues (view t)) (begins x m) (ends x m) (dialogues (view (handed t m)))) r.same
              (subst (λ (U : Table). Moves (dialogues (view t)) (begins (encode (view t)) m) (ends (encode (view t)) m) (dialogues U)) (sym v) n.moves),
        )

pub history : (T : Table) → Fine T → (ms : List Made) → AllFormed ms → Reached (encode T) T ms
history T f ms o =
    let h = over-moves handed (λ t. dialogues (view t)) begins ends Ready (λ m. WellFormed m.call) next-octets (encode T) (encode-ready T f) ms o in
    record {
      to = view (after (encode T) ms);
      fine = h.0.fine;
      table = sym h.0.same;
      moves = subst (λ (U : Table). Moves (dialogues U) (λ s. begun_of s (encode T) ms) (λ s. ended_of s (encode T) ms) (dialogues (view (after (encode T) ms)))) (view-encode T f) h.1;
    }

-- of one answered 0, the rows of its step
pub told-step : (T : Table) → Fine T → (l : Lent) (c : Call) → WellFormed c → standing l (spaces_for c) ≡ 0 → (step T c).answer ≡ 0
    → told (given l (step T c)) ≡ record { answer = 0; dialogue = (step T c).dialogue; rows = (step T c).rows }
told-step T f l c o e z =
    told-given l (step T c) z (step-fit T f c o) (rows_fit T f l c o e) ∙ ap (λ (n : ℕ). record { answer = n; dialogue = (step T c).dialogue; rows = (step T c).rows }) z
