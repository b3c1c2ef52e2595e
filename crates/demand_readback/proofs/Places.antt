-- A component's parameter is its last octets. Assumes nothing.
use Rattle.std.proofs.Common.{arith, sym, ◌∙◌, ap, append_assoc, append-nil, length-append}
use Rattle.std.specs.Prelude.{ℕ, ◌+◌, ◌-◌, ◌≤◌, ◌≡◌, refl, List, [], ◌∷◌, ◌++◌, length}
use Rattle.laws.specs.If.{by-eq}
use Rattle.paper.specs.Components.{invoke_tag, error_tag, no_id}
use Rattle.paper.specs.Writing.{tlv, id_then, result_octets, error_octets, reject_octets, Written, octets_of}
use Rattle.paper.specs.Writing.Written.{Invoke, Result, Error, Reject}
use Rattle.writing_octets.specs.Heads.{element_head, element-joined}
use Rattle.writing_octets.specs.Lengths.{invoke-plain, invoke-linked, result-both}
use Rattle.demand_readback.specs.Standing.{Has}
use Rattle.demand_readback.proofs.Standing.{has-as, has_rest, has-at}
use Rattle.demand_readback.specs.Written.{Allowed, parameter_of}
use Rattle.demand_readback.proofs.Listing.{result-empty}

record EndsWith (o l : List ℕ) : Type 0 where
  before : List ℕ
  is : before ++ l ≡ o

after-head : (t : ℕ) (c l : List ℕ) → EndsWith c l → EndsWith (tlv t c) l
after-head t c l e = record {
  before = element_head t (length c) ++ e.before;
  is = append_assoc (element_head t (length c)) e.before l ∙ ap (λ (k : List ℕ). element_head t (length c) ++ k) e.is ∙ sym (element-joined t c);
}

after-some : (x c l : List ℕ) → EndsWith c l → EndsWith (x ++ c) l
after-some x c l e = record { before = x ++ e.before; is = append_assoc x e.before l ∙ ap (λ (k : List ℕ). x ++ k) e.is }

last_of : (x l : List ℕ) → EndsWith (x ++ l) l
last_of x l = record { before = x; is = refl }

named : {o q l : List ℕ} → o ≡ q → EndsWith o l → EndsWith q l
named h e = record { before = e.before; is = e.is ∙ h }

none_last : (o l : List ℕ) → length l ≡ 0 → EndsWith o l
none_last o [] h = record { before = o; is = append-nil o }
none_last o (x ∷ l) h = absurd (omega arith)

parameter-last : (w : Written) → Allowed w → EndsWith (octets_of w) (parameter_of w)
unfolding octets_of error_octets
parameter-last (Invoke id linked op par) a =
    by-eq {A = ℕ} linked no_id 0 0 refl
    (λ z _. named (invoke-plain op par id linked z) (after-head invoke_tag (id_then id (op ++ par)) par (after-some (2 ∷ 1 ∷ id ∷ []) (op ++ par) par (last_of op par))))
    (λ z _. named (invoke-linked op par id linked z)
    (after-head invoke_tag (id_then id (0x80 ∷ 1 ∷ linked ∷ (op ++ par))) par (after-some (2 ∷ 1 ∷ id ∷ 0x80 ∷ 1 ∷ linked ∷ []) (op ++ par) par (last_of op par))))
parameter-last (Result tag id op par) a =
    by-eq {A = ℕ} (length op) 0 0 0 refl
    (λ z _. none_last (result_octets tag id op par) par (result-empty op par a.2 z))
    (λ z _. named (result-both op par tag id z)
    (after-head tag (id_then id (tlv 0x30 (op ++ par))) par (after-some (2 ∷ 1 ∷ id ∷ []) (tlv 0x30 (op ++ par)) par (after-head 0x30 (op ++ par) par (last_of op par)))))
parameter-last (Error id err par) a = after-head error_tag (id_then id (err ++ par)) par (after-some (2 ∷ 1 ∷ id ∷ []) (err ++ par) par (last_of err par))
parameter-last (Reject id p) a = none_last (reject_octets id p) [] refl

pub parameter-fits : (w : Written) → Allowed w → length (parameter_of w) ≤ length (octets_of w)
parameter-fits w a = let e = parameter-last w a in omega (arith, length-append e.before (parameter_of w), ap length e.is)

pub parameter-there : (s : List ℕ) (at : ℕ) (w : Written) → Allowed w → Has s at (octets_of w)
    → Has s (at + length (octets_of w) - length (parameter_of w)) (parameter_of w)
parameter-there s at w a has =
    let e = parameter-last w a in
    has-at (has_rest e.before (parameter_of w) (has-as has (sym e.is))) (omega (arith, length-append e.before (parameter_of w), ap length e.is))
