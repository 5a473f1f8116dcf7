-- Document 01 as definitions, in reading order.
pub mod Limits
pub mod Text
pub mod Utf8
pub mod Reading
pub mod Code
pub mod Store
pub mod Value
pub mod Load
pub mod Report
pub mod Machine
pub mod Places
pub mod Results
-- What is said of them: readings and their order in 01's words, the children of a node, function 2 and the usage report in 02's, what a loaded text has, how large a run's states are.
pub mod Fitting
pub mod FirstReading
pub mod Parts
pub mod Children
pub mod Copies
pub mod Usage
pub mod Legal
pub mod Sizes
-- What a run's answer says of its outputs, store and report, which numbers are answered, and what document 01 demands of a run.
pub mod Runs
pub mod NumberTable
pub mod Demands
-- What the programs print.
pub mod Printed
