pub mod Rules
pub mod Records
pub mod Series
pub mod RecordReaders
pub mod Results
pub mod Laws
pub mod Puts
