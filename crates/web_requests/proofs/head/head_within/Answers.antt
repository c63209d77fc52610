use Rattle.web_requests.proofs.HeadLemmas.{request_in}
use Rattle.web_requests.proofs.head.head_within.Goals as goal

pub returns-in_ok-request-in-Ok-Complete : goal.returns-in_ok-request-in-Ok-Complete
returns-in_ok-request-in-Ok-Complete c =
    let found = rw c.in-Ok-Complete.field-0-is at c.in-Ok-Complete.ensures.complete in
    record { head = request_in c.args.bytes.now c.parse_request.new.headers c.in-Ok-Complete.places c.in_ok-request-in-Ok-Complete.request found c.in_ok-request-in-Ok-Complete.ensures }
