-- WHAT A REQUEST THAT IS DONE GIVES, by its shape: said of each request once. Assumes nothing.
use Rattle.std.specs.Prelude.{◌≡◌, false, List, [], ◌∷◌, ℕ}
use Rattle.std.proofs.Math.Path.{refl}
use Rattle.paper.specs.Problems.{no_problem}
use Rattle.paper.specs.Messages.{no_run}
use Rattle.paper.specs.Kinds.{row_abort}
use Rattle.paper.specs.Rows.{dialogue_row}
use Rattle.paper.specs.Dialogues.{Place, Request, Invoke, Result, Error, UserReject, Cancel, Begin, Continue, End, Prearranged, Abort, Unidirectional, Timeout, RejectTimeout, NoReaction, Done, shape_of, done, timeout_rows, does}

-- it is answered 0, and has no row but where its shape has a row space: a timer's
module _ (me : ℕ) (x : Place) (P : Request → Done → Type 0) (q : (r : Request) (y : Place) (m : List ℕ) → (shape_of r).rows ≡ false → P r (done y [] m))
    (t : (id : ℕ) (y : Place) → P (Timeout id) (done y (timeout_rows me x id) [])) (n : (y : Place) → P NoReaction (done y (dialogue_row row_abort me no_problem no_run 0 ∷ []) [])) where
  pub by_shape : (r : Request) → P r (does me x r)
  unfolding does
  by_shape (Invoke id linked class op par) = q (Invoke id linked class op par) _ _ refl
  by_shape (Result tag id op par) = q (Result tag id op par) _ _ refl
  by_shape (Error id err par) = q (Error id err par) _ _ refl
  by_shape (UserReject id p) = q (UserReject id p) _ _ refl
  by_shape (Cancel id) = q (Cancel id) _ _ refl
  by_shape (Begin name info) = q (Begin name info) _ _ refl
  by_shape (Continue name info) = q (Continue name info) _ _ refl
  by_shape (End name info) = q (End name info) _ _ refl
  by_shape Prearranged = q Prearranged _ _ refl
  by_shape (Abort given) = q (Abort given) _ _ refl
  by_shape (Unidirectional name info) = q (Unidirectional name info) _ _ refl
  by_shape (Timeout id) = t id _
  by_shape (RejectTimeout id) = q (RejectTimeout id) _ _ refl
  by_shape NoReaction = n _

pub does-answers : (me : ℕ) (x : Place) (r : Request) → (does me x r).answer ≡ 0
does-answers me x = by_shape me x (λ r o. o.answer ≡ 0) (λ r y m e. refl) (λ id y. refl) (λ y. refl)
