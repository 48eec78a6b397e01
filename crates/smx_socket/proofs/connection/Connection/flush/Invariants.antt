use Rattle.std.proofs.Common.{◌≡◌, ◌+◌, length}
use Rattle.std.specs.Prelude.{IsTrue, IsFalse}
use Rattle.smx_socket.specs.Connections.{HasToWait}
use Rattle.smx_socket.proofs.connection.Connection.flush.Given as goal

-- each round writes once, and leaves the rest as it was
abbrev pub invariant-loop : goal.invariant-loop
invariant-loop g l =
    (l.self.accepted ≡ l.fn.self.accepted)
    × (g.T.Transport.given l.self.transport ≡ g.T.Transport.given l.fn.self.transport)
    × (g.T.Transport.reads l.self.transport ≡ g.T.Transport.reads l.fn.self.transport)
    × (length (g.T.Transport.writes l.self.transport) ≡ length (g.T.Transport.writes l.fn.self.transport) + l.counter)
    × (l.self.marks ≡ record l.fn.self.marks { writable = l.self.marks.writable; failed = l.self.marks.failed })
    × (IsTrue l.self.marks.writable → IsTrue l.fn.self.marks.writable)
    × (IsTrue l.fn.self.marks.writable → IsFalse l.self.marks.writable → HasToWait (g.T.Transport.writes l.fn.self.transport) (g.T.Transport.writes l.self.transport))
    × (l.counter ≡ 0 → l.self ≡ l.fn.self)
