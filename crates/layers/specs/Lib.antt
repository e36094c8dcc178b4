pub mod Join
pub mod JoinShape
pub mod Window
pub mod WindowShape
