-- WHAT A NESTING SAYS: its frame, whether the element in it is well formed, and that a frame stands where one is given. Assumes nothing.
use Rattle.std.specs.Prelude.{◌≡◌, refl, Bool, true, false, ℕ, ◌-◌, ◌<◌, Ok, Err}
use Rattle.std.proofs.Common.{arith}
use Rattle.paper.specs.declared.Frame.{Frame}
use Rattle.paper.specs.declared.Head.{Head}
use Rattle.paper.specs.declared.Head.TheVariants.{Bad, Whole, Holds, Opens}
use Rattle.paper.specs.Elements.{Reading, no_frame, frame_by}
use Rattle.reading_elements.specs.Bounds.{HeadIn, ReadingIn}
use Rattle.reading_elements.specs.declared.Nesting.{Nesting}
use Rattle.reading_elements.specs.declared.Nesting.TheVariants.{Sound, Broken, Nowhere}

abbrev pub frame_of : Nesting → Frame
frame_of (Sound f) = f
frame_of (Broken f) = f
frame_of Nowhere = no_frame

abbrev pub is_sound : Nesting → Bool
is_sound (Sound f) = true
is_sound (Broken f) = false
is_sound Nowhere = false

abbrev pub Stands : Nesting → Type 0
Stands (Sound f) = 0 < f.stop
Stands (Broken f) = 0 < f.stop
Stands Nowhere = Unit

-- of a head, and of what the element comes to
abbrev pub nesting_by : Head → Reading → Nesting
nesting_by Bad x = Nowhere
nesting_by (Whole e) x = Sound (record { from = e; to = e; stop = e })
nesting_by (Holds b e) (Ok x) = Sound (record { from = b; to = e; stop = e })
nesting_by (Holds b e) (Err f) = Broken (record { from = b; to = e; stop = e })
nesting_by (Opens b) (Ok x) = Sound (record { from = b; to = x - 2; stop = x })
nesting_by (Opens b) (Err f) = Nowhere

pub framed-by : (h : Head) (x : Reading) → frame_of (nesting_by h x) ≡ frame_by h (λ _. x)
framed-by Bad x = refl
framed-by (Whole e) x = refl
framed-by (Holds b e) (Ok x) = refl
framed-by (Holds b e) (Err f) = refl
framed-by (Opens b) (Ok x) = refl
framed-by (Opens b) (Err f) = refl

pub stands-by : (at lim : ℕ) (h : Head) (x : Reading) → HeadIn at lim h → ReadingIn at lim x → Stands (nesting_by h x)
stands-by at lim Bad x w i = tt
stands-by at lim (Whole e) x w i = omega arith
stands-by at lim (Holds b e) (Ok x) w i = omega arith
stands-by at lim (Holds b e) (Err f) w i = omega arith
stands-by at lim (Opens b) (Ok x) w i = omega arith
stands-by at lim (Opens b) (Err f) w i = tt
