use native.Mathlib.Omega.{arith}
use Rattle.paper.specs.Portions.{aarq, aare, abrt, audt}
use Rattle.reading_portion.specs.Steps.{form-found, form-next, no-form}
use Rattle.reading_portion.proofs.by_form.Goals as goal

pub returns-then-a-ne0 : goal.returns-then-a-ne0
returns-then-a-ne0 c =
    form-found aarq _ _ _ _ _ c.external-x.ensures.is c.structured-a.ensures.is (λ h. omega arith) c.request.ensures

pub returns-then-b-ne0 : goal.returns-then-b-ne0
returns-then-b-ne0 c =
    form-next aarq _ _ _ _ _ c.external-x.ensures.is c.structured-a.ensures.is (omega arith) (form-found aare _ _ _ _ _ c.external-x.ensures.is c.structured-b.ensures.is (λ h. omega arith) c.response.ensures)

pub returns-then-c-ne0 : goal.returns-then-c-ne0
returns-then-c-ne0 c =
    form-next aarq _ _ _ _ _ c.external-x.ensures.is c.structured-a.ensures.is (omega arith) (form-next aare _ _ _ _ _ c.external-x.ensures.is c.structured-b.ensures.is (omega arith) (form-found abrt _ _ _ _ _ c.external-x.ensures.is c.structured-c.ensures.is (λ h. omega arith) c.abort.ensures))

pub returns-then-d-ne0 : goal.returns-then-d-ne0
returns-then-d-ne0 c =
    form-next aarq _ _ _ _ _ c.external-x.ensures.is c.structured-a.ensures.is (omega arith) (form-next aare _ _ _ _ _ c.external-x.ensures.is c.structured-b.ensures.is (omega arith) (form-next abrt _ _ _ _ _ c.external-x.ensures.is c.structured-c.ensures.is (omega arith) (form-found audt _ _ _ _ _ c.external-x.ensures.is c.unstructured-d.ensures.is (λ h. omega arith) c.unidirectional.ensures)))

pub returns : goal.returns
returns c =
    form-next aarq _ _ _ _ _ c.external-x.ensures.is c.structured-a.ensures.is (omega arith) (form-next aare _ _ _ _ _ c.external-x.ensures.is c.structured-b.ensures.is (omega arith) (form-next abrt _ _ _ _ _ c.external-x.ensures.is c.structured-c.ensures.is (omega arith) (form-next audt _ _ _ _ _ c.external-x.ensures.is c.unstructured-d.ensures.is (omega arith) (no-form _))))
