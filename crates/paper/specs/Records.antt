-- ONE FIELD OF A RECORD CHANGED, and the others kept. A record is built whole only where it is empty (no_invocation, empty_control), new
-- (new_one) and read from octets (Layout). Assumes nothing.
use Rattle.std.specs.Prelude.{List, ℕ}
use Rattle.paper.specs.declared.Invocation.{Invocation}
use Rattle.paper.specs.declared.Reject.{Reject}
use Rattle.paper.specs.declared.Control.{Control}

-- AN INVOCATION
abbrev pub in_state : Invocation → ℕ → Invocation
in_state v state = record { id = v.id; class = v.class; state = state; shown = v.shown }

-- "after an A7 was shown"
abbrev pub was_shown : Invocation → Invocation
was_shown v = record { id = v.id; class = v.class; state = v.state; shown = 1 }

-- A CONTROL RECORD
abbrev pub with_state : Control → ℕ → Control
with_state c state = record {
  turn = c.turn;
  state = state;
  service = c.service;
  peerlen = c.peerlen;
  peer = c.peer;
  count = c.count;
  invocations = c.invocations;
  rejects = c.rejects;
}

abbrev pub with_service : Control → ℕ → Control
with_service c service = record {
  turn = c.turn;
  state = c.state;
  service = service;
  peerlen = c.peerlen;
  peer = c.peer;
  count = c.count;
  invocations = c.invocations;
  rejects = c.rejects;
}

-- the peer's ID: how many octets, and the four
abbrev pub with_peer_id : Control → ℕ → List ℕ → Control
with_peer_id c peerlen peer = record {
  turn = c.turn;
  state = c.state;
  service = c.service;
  peerlen = peerlen;
  peer = peer;
  count = c.count;
  invocations = c.invocations;
  rejects = c.rejects;
}

abbrev pub with_invocations : Control → List Invocation → Control
with_invocations c l = record {
  turn = c.turn;
  state = c.state;
  service = c.service;
  peerlen = c.peerlen;
  peer = c.peer;
  count = c.count;
  invocations = l;
  rejects = c.rejects;
}

-- the waiting rejects: how many, and the eight
abbrev pub with_rejects : Control → ℕ → List Reject → Control
with_rejects c count l = record {
  turn = c.turn;
  state = c.state;
  service = c.service;
  peerlen = c.peerlen;
  peer = c.peer;
  count = count;
  invocations = c.invocations;
  rejects = l;
}
