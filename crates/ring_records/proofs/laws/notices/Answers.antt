use Rattle.ring_records.proofs.DecisionNotices.{leaders_content}
use Rattle.ring_records.proofs.Notices.{decided-leads, retired-told, leader_in-stays, latest_in-never_down}
use Rattle.ring_records.proofs.laws.notices.Goals as goal

pub returns-clause-decided : goal.returns-clause-decided
returns-clause-decided c = decided-leads

pub returns-clause-retired : goal.returns-clause-retired
returns-clause-retired c = retired-told

pub returns-clause-stays : goal.returns-clause-stays
returns-clause-stays c = leader_in-stays

pub returns-clause-never_down : goal.returns-clause-never_down
returns-clause-never_down c = latest_in-never_down

pub returns-clause-leaders : goal.returns-clause-leaders
returns-clause-leaders c me h list key are = leaders_content me h list are key
