pub mod Laws
pub mod Light
pub mod Room
pub mod WeighSteps
pub mod EmitSteps
pub mod JoinSteps
pub mod NodeSteps
