use Rattle.reading_elements.specs.Steps.{by-head, no-depth, element-told, at-end, no_more, next}
use Rattle.reading_elements.specs.Bounds.{ReadingIn}
use Rattle.std.proofs.Common.{◌-◌, true, false, sym, ◌∙◌, subst, arith}
use Rattle.std.proofs.lemmas.Result.{err_from_is_err_and}
use Rattle.reading_elements.proofs.+contents_element.Goals as goal

pub contents-returns-then-indefinite : goal.contents-returns-then-indefinite
contents-returns-then-indefinite t c =
    c.loop-left.invariant.2 _ (λ n h. at-end _ _ _ _ _ n _ h true c.if-indefinite.true (sym c.loop-left-test.false ∙ c.is_end.ensures))

pub contents-returns-else-indefinite : goal.contents-returns-else-indefinite
contents-returns-else-indefinite t c =
    c.loop-left.invariant.2 _ (λ n h. at-end _ _ _ _ _ n _ h false c.if-indefinite.false (sym c.loop-left-test.false ∙ c.is_end.ensures))

pub contents-returns-then-p-lim : goal.contents-returns-then-p-lim
contents-returns-then-p-lim t c =
    c.loop-left.invariant.2 _ (λ n h. no_more _ _ _ _ _ n _ h (sym c.loop-left-test.true ∙ c.is_end.ensures) c.if-p-lim.true)

pub contents-loop-left-preserved-in-Some : goal.contents-loop-left-preserved-in-Some
contents-loop-left-preserved-in-Some t c =
    let w = c.in-Some.ensures in (
      omega arith,
      omega arith,
      λ x g. c.loop-left.invariant.2 x (λ n h.
          next _ _ _ _ _ n _ h _ x (sym c.loop-left-test.true ∙ c.is_end.ensures) c.if-p-lim.false w.is (g (n - 1) (omega arith))),
    )

pub contents-returns-in_err-p-in-None : goal.contents-returns-in_err-p-in-None
contents-returns-in_err-p-in-None t c =
    let p = err_from_is_err_and c.from_residual.result c.from_residual.ensures.1 in
    c.loop-left.invariant.2 _ (λ n h.
    next _ _ _ _ _ n _ h _ _ (sym c.loop-left-test.true ∙ c.is_end.ensures) c.if-p-lim.false (sym c.in_err-p-in-None.was ∙ c.element.ensures.is) (rw (p.1, p.2)))

pub contents-loop-left-preserved : goal.contents-loop-left-preserved
contents-loop-left-preserved t c =
    let w = subst (ReadingIn _ _) c.in_ok-p-in-None.was c.element.ensures.within in (
      omega arith,
      omega arith,
      λ x g. c.loop-left.invariant.2 x (λ n h.
          next _ _ _ _ _ n _ h _ x (sym c.loop-left-test.true ∙ c.is_end.ensures) c.if-p-lim.false (sym c.in_ok-p-in-None.was ∙ c.element.ensures.is) (g (n - 1) (omega arith))),
    )

pub element-returns-then-left-eq0 : goal.element-returns-then-left-eq0
element-returns-then-left-eq0 t c =
    let both = element-told _ _ _ _ (no-depth _ _ _ _ c.if-left-eq0.true) in
    record { is = both.0; within = both.1 }

pub element-returns-in-Bad : goal.element-returns-in-Bad
element-returns-in-Bad t c =
    let both = element-told _ _ _ _ (by-head _ _ _ _ _ c.if-left-eq0.false (sym c.in-Bad.is ∙ c.head_at.ensures.is)) in
    record { is = both.0; within = both.1 }

pub element-returns-in-Whole : goal.element-returns-in-Whole
element-returns-in-Whole t c =
    let both = element-told _ _ _ _ (by-head _ _ _ _ _ c.if-left-eq0.false (sym c.in-Whole.is ∙ c.head_at.ensures.is)) in
    record { is = both.0; within = both.1 }

pub element-returns-in-Holds : goal.element-returns-in-Holds
element-returns-in-Holds t c =
    let both = element-told _ _ _ _ (c.contents.ensures _ (omega arith) ∙ by-head _ _ _ _ _ c.if-left-eq0.false (sym c.in-Holds.is ∙ c.head_at.ensures.is)) in
    record { is = both.0; within = both.1 }

pub element-returns-in-Opens : goal.element-returns-in-Opens
element-returns-in-Opens t c =
    let both = element-told _ _ _ _ (c.contents-in-Opens.ensures _ (omega arith) ∙ by-head _ _ _ _ _ c.if-left-eq0.false (sym c.in-Opens.is ∙ c.head_at.ensures.is)) in
    record { is = both.0; within = both.1 }
