-- What is written before given octets (01, "Coding"), so that a message's dialogue portion and components can be written after its IDs. Assumes nothing.
use Rattle.std.specs.Prelude.{◌≡◌, refl, List, [], ◌∷◌, ◌++◌, ℕ, ◌+◌, length}
use Rattle.std.proofs.Common.{sym, ap, ◌∙◌, append_assoc, arith, length-append}
use Rattle.laws.specs.If.{if_eq, eq, ne}
use Rattle.paper.specs.Messages.{uni_tag, begin_tag, end_tag, continue_tag, abort_tag}
use Rattle.paper.specs.Writing.{length_octets, tlv, components_octets, begin_octets, continue_octets, end_octets, uni_octets, user_abort_octets}

-- tag and length of an element whose contents are n octets
abbrev pub element_head : ℕ → ℕ → List ℕ
element_head tag n = tag ∷ length_octets n

-- that of n octets of components, absent where there is none
unfoldable pub components_head : ℕ → List ℕ
components_head n = if_eq n 0 [] (element_head 0x6C n)

-- a message up to its IDs, the 48 and 49 with what they hold, where m octets follow them: a dialogue portion and components
unfoldable pub front_head : ℕ → List ℕ → ℕ → List ℕ
front_head tag ids m = element_head tag (length ids + m) ++ ids

-- THE FRONT, THEN WHAT FOLLOWS IT, is the message
pub element-joined : (tag : ℕ) (c : List ℕ) → tlv tag c ≡ element_head tag (length c) ++ c
unfolding tlv
element-joined tag c = refl

pub components-joined : (cs : List ℕ) → components_octets cs ≡ components_head (length cs) ++ cs
unfolding components_octets components_head
components-joined [] = sym (eq 0 0 [] (tlv 0x6C []) refl refl) ∙ ap (λ (h : List ℕ). h ++ []) (eq 0 0 [] (element_head 0x6C 0) refl refl)
components-joined (c ∷ cs) =
    let l : List ℕ = c ∷ cs in
    sym (ne (length l) 0 [] (tlv 0x6C l) (λ h. omega arith) refl)
    ∙ element-joined 0x6C l
    ∙ ap (λ (h : List ℕ). h ++ l) (ne (length l) 0 [] (element_head 0x6C (length l)) (λ h. omega arith) refl)

pub front-joined : (tag : ℕ) (ids rest : List ℕ) (m : ℕ) → m ≡ length rest → front_head tag ids m ++ rest ≡ tlv tag (ids ++ rest)
unfolding front_head
front-joined tag ids rest m h =
    let n : length ids + m ≡ length (ids ++ rest) = omega (arith, length-append ids rest) in
    append_assoc (element_head tag (length ids + m)) ids rest
    ∙ ap (λ (k : ℕ). element_head tag k ++ (ids ++ rest)) n
    ∙ sym (element-joined tag (ids ++ rest))

-- IDs, a dialogue portion's octets, components: m of the last two, the 6C's head counted
pub message-joined : (tag : ℕ) (ids portion cs : List ℕ) (m : ℕ) → m ≡ length portion + (length (components_head (length cs)) + length cs)
    → front_head tag ids m ++ (portion ++ (components_head (length cs) ++ cs)) ≡ tlv tag (ids ++ (portion ++ components_octets cs))
message-joined tag ids portion cs m h =
    let c : List ℕ = components_head (length cs) in
    front-joined tag ids (portion ++ (c ++ cs)) m (omega (arith, length-append portion (c ++ cs), length-append c cs))
    ∙ ap (λ (c : List ℕ). tlv tag (ids ++ (portion ++ c))) (sym (components-joined cs))

pub begin-joined : (own portion cs : List ℕ) (m : ℕ) → m ≡ length portion + (length (components_head (length cs)) + length cs)
    → front_head begin_tag (tlv 0x48 own) m ++ (portion ++ (components_head (length cs) ++ cs)) ≡ begin_octets own portion cs
unfolding begin_octets
begin-joined own portion cs m h = message-joined begin_tag (tlv 0x48 own) portion cs m h

pub continue-joined : (own peer portion cs : List ℕ) (m : ℕ) → m ≡ length portion + (length (components_head (length cs)) + length cs)
    → front_head continue_tag (tlv 0x48 own ++ tlv 0x49 peer) m ++ (portion ++ (components_head (length cs) ++ cs)) ≡ continue_octets own peer portion cs
unfolding continue_octets
continue-joined own peer portion cs m h =
    message-joined continue_tag (tlv 0x48 own ++ tlv 0x49 peer) portion cs m h
    ∙ ap (tlv continue_tag) (append_assoc (tlv 0x48 own) (tlv 0x49 peer) (portion ++ components_octets cs))

pub end-joined : (peer portion cs : List ℕ) (m : ℕ) → m ≡ length portion + (length (components_head (length cs)) + length cs)
    → front_head end_tag (tlv 0x49 peer) m ++ (portion ++ (components_head (length cs) ++ cs)) ≡ end_octets peer portion cs
unfolding end_octets
end-joined peer portion cs m h = message-joined end_tag (tlv 0x49 peer) portion cs m h

pub uni-joined : (portion cs : List ℕ) (m : ℕ) → m ≡ length portion + (length (components_head (length cs)) + length cs)
    → front_head uni_tag [] m ++ (portion ++ (components_head (length cs) ++ cs)) ≡ uni_octets portion cs
unfolding uni_octets
uni-joined portion cs m h = message-joined uni_tag [] portion cs m h

pub abort-joined : (peer portion : List ℕ) (m : ℕ) → m ≡ length portion → front_head abort_tag (tlv 0x49 peer) m ++ portion ≡ user_abort_octets peer portion
unfolding user_abort_octets
abort-joined peer portion m h = front-joined abort_tag (tlv 0x49 peer) portion m h
