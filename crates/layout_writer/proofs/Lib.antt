pub mod EachLine
pub mod TypeLines
pub mod FuncLines
