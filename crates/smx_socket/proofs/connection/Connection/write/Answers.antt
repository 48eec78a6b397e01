use Rattle.smx_socket.proofs.connection.Connection.write.Goals as goal

pub returns-clause-ok : goal.returns-clause-ok
returns-clause-ok g c = λ accepts. let e = c.tell_write.ensures.ok (c.accept_more-found.ensures.ok accepts) in
    rw e (c.accept_more-found.ensures.ok accepts)

pub returns-clause-full : goal.returns-clause-full
returns-clause-full g c = λ accepts. let e = c.tell_write.ensures.ok (c.accept_more-found.ensures.ok accepts) in
    rw e (c.accept_more-found.ensures.full accepts)
